-- Cells that are relaxed one after another, as in a sweep under way.
use Rattle.settle_driver.proofs.Common.{◌≡◌, ℕ, ◌+◌, ◌<◌, inl, inr, refl, sym, ◌∙◌, ap, subst, arith, Bool, false, List, length, ℤ, slice_index_or, zero, suc, ◌%◌, ◌∷◌, ◌++◌, get_or, All}
use Rattle.settle_driver.proofs.Common.{length-append, ◌≤◌, Vec, Global, Result, vec_len, ◌||◌, IfOk, Bound, Side, Low, High, Entries, IsHead, IsProblem, AsTight, AreHeads, IsRelaxed, IsPast}
use Rattle.settle_driver.proofs.Common.{IsOnTheWay, no_bound, IsSide, as_tight_refl, as_tight_trans, turn_passes, passes_more, edge_kept, is_side, heads_in_range, tighter_first, tighter_second}
use Rattle.settle_driver.proofs.Common.{AreNoLooser, head_of, heads_on, AreWords, IsAsTight, IsRelaxedCell, IsPastCell, StayOnTheWay, AreBothSettled, HasSeen, HasWorked, HeadTable, HeadSeat, HasMoved}
use Rattle.settle_driver.proofs.Common.{HasTighter, seen_of, seen_on, cases_eq, way_on, OnTheWay, edge_on, get_or-append, or_parts}
use Rattle.step_problem.proofs.SidesTurns.{exchange_is_as_tight, relaxed_exchange, relaxed_keeps}
use Rattle.head_table.proofs.Joining.{ok_under}
use Rattle.std.specs.declared.alloc.AllocError.{AllocError}
use native.Mathlib.Nat.{mod-lt}

module _ {Le : ℤ → ℤ → Type 0} {Moves : ℕ → ℤ → (ℕ → ℤ) → Type 0} {n : ℕ} (s : IsSide Le Moves n) where
  -- one more cell is past its relaxed head from the old heads
  past_more : (old l next : ℕ → ℤ) (c : ℕ) → c < n → AsTight Le Moves n old l → IsRelaxed Le Moves n l c (next c) → ((d : ℕ) → (d ≡ c → ⊥) → next d ≡ l d) →
      ((d : ℕ) → d < c → IsPast Le Moves n old d (l d)) → (d : ℕ) → d < c + 1 → IsPast Le Moves n old d (next d)
  past_more old l next c h tight t others before d i =
      elim (cases_eq d c) [
        | inl e ↦ subst (λ (k : ℕ). IsPast Le Moves n old k (next k)) (sym e) (passes_more s old l c (next c) (next c) h tight (s.refl (next c)) (turn_passes s l c (next c) t))
        | inr ne ↦ subst (IsPast Le Moves n old d) (sym (others d ne)) (before d (omega arith))
      ]

  tight_more : (old l next : ℕ → ℤ) (c : ℕ) → AsTight Le Moves n old l → IsRelaxed Le Moves n l c (next c) → ((d : ℕ) → (d ≡ c → ⊥) → next d ≡ l d) → AsTight Le Moves n old next
  tight_more old l next c tight t others = as_tight_trans s old l next tight (exchange_is_as_tight s l c (next c) (next c) next (relaxed_exchange s l next c (next c) refl others t))

  way_more : (edge l next : ℕ → ℤ) (c : ℕ) → c < n → IsOnTheWay Le Moves n edge l → IsRelaxed Le Moves n l c (next c) → ((d : ℕ) → (d ≡ c → ⊥) → next d ≡ l d) → IsOnTheWay Le Moves n edge next
  way_more edge l next c h k t others = relaxed_keeps s edge l next c (next c) h k refl others t

  heads_more : (l next : ℕ → ℤ) (c : ℕ) → c < n → AreHeads Le Moves n l → IsRelaxed Le Moves n l c (next c) → ((d : ℕ) → (d ≡ c → ⊥) → next d ≡ l d) → AreHeads Le Moves n next
  heads_more l next c h heads t others = (way_more l l next c h (edge_kept s l heads) t others).heads

-- what relaxing some cells has made of the old words
pub record Listed (p : List Entries) (old w : List Bound) : Type 0 where
  pub words : AreWords p w
  pub way : StayOnTheWay p old w
  pub tight : AreNoLooser p old w

-- what a sweep has made of them before it comes to cell c
pub record Swept (p : List Entries) (old w : List Bound) (moved : Bool) (c : ℕ) : Type 0 where
  pub listed : Listed p old w
  pub past : (d : ℕ) → d < c → IsPastCell p old w d
  pub still : moved ≡ false → w ≡ old

pub listed_none : (p : List Entries) (old : List Bound) → IsProblem p → AreWords p old → Listed p old old
listed_none p old ok words = record { words = words; way = record { on = λ b k. k }; tight = λ side. as_tight_refl (is_side side p ok) (heads_on side old) }

pub swept_none : (p : List Entries) (old : List Bound) → IsProblem p → AreWords p old → Swept p old old false 0
swept_none p old ok words = record { listed = listed_none p old ok words; past = λ d i. absurd (omega arith); still = λ e. refl }

-- one more cell is relaxed
module _ (p : List Entries) (old w next : List Bound) (c : ℕ) (ok : IsProblem p) (i : c < length p) (same : length next ≡ length w) (t : IsRelaxedCell p w next c)
    (others : (d : ℕ) → (d ≡ c → ⊥) → slice_index_or next d no_bound ≡ slice_index_or w d no_bound)
  where
    same_on : (side : Side) (d : ℕ) → (d ≡ c → ⊥) → heads_on side next d ≡ heads_on side w d
    same_on side d ne = ap (head_of side) (others d ne)

    in_range : AreWords p w → (side : Side) (d : ℕ) → d < length p → IsHead (heads_on side next d)
    in_range words side = heads_more (is_side side p ok) (heads_on side w) (heads_on side next) c i (heads_in_range side p w words) (t side) (same_on side)

    pub listed_more : Listed p old w → Listed p old next
    listed_more s = record {
      words = record { whole = same ∙ s.words.whole; low = in_range s.words Low; high = in_range s.words High };
      way = record {
        on = λ b k.
            let on : (side : Side) → OnTheWay side p (edge_on side b) (heads_on side next) =
            λ side. way_more (is_side side p ok) (edge_on side b) (heads_on side w) (heads_on side next) c i (way_on side p b w (s.way.on b k)) (t side) (same_on side) in
            record { whole = same ∙ s.words.whole; low = on Low; high = on High };
      };
      tight = λ side. tight_more (is_side side p ok) (heads_on side old) (heads_on side w) (heads_on side next) c (s.tight side) (t side) (same_on side);
    }

    pub swept_more : (moved now : Bool) → Swept p old w moved c → (now ≡ false → next ≡ w) → Swept p old next (moved || now) (c + 1)
    swept_more moved now s still = record {
      listed = listed_more s.listed;
      past = λ d h side. past_more (is_side side p ok) (heads_on side old) (heads_on side w) (heads_on side next) c i (s.listed.tight side) (t side) (same_on side) (λ k hk. s.past k hk side) d h;
      still = λ e. let (a, b) = or_parts moved now e in still b ∙ s.still a;
    }

-- words that a sweep leaves alone are settled
pub still_settled : (p : List Entries) (old w : List Bound) → ((c : ℕ) → c < length p → IsPastCell p old w c) → w ≡ old → AreBothSettled p w
still_settled p old w past e = grind (arith)

-- Seats that are joined, and what a phase gains.
pub tighter_left : (p : List Entries) (a b c : HeadSeat) → HasTighter p a b c → AreNoLooser p (seen_of a) (seen_of c)
tighter_left p a b c t side d h = subst (IsAsTight side (seen_on side a d)) (sym (t side d h)) (tighter_first side (seen_on side a d) (seen_on side b d))

pub tighter_right : (p : List Entries) (a b c : HeadSeat) → HasTighter p a b c → AreNoLooser p (seen_of b) (seen_of c)
tighter_right p a b c t side d h = subst (IsAsTight side (seen_on side b d)) (sym (t side d h)) (tighter_second side (seen_on side a d) (seen_on side b d))

pub all_cons : {X : Type 0} (P : X → Type 0) (x : X) (xs : List X) → P x → All P xs → All P (x ∷ xs)
all_cons P x xs p ps zero d h = p
all_cons P x xs p ps (suc k) d h = ps k d (omega arith)

pub all_front : {X : Type 0} (P : X → Type 0) (xs ys : List X) → All P (xs ++ ys) → All P xs
all_front P xs ys ps k d h = subst P (get_or-append xs ys d k h) (ps k d (omega (arith, length-append xs ys)))

-- what one worker gained stays with tighter heads
still_past : {Le : ℤ → ℤ → Type 0} {Moves : ℕ → ℤ → (ℕ → ℤ) → Type 0} {n : ℕ} → IsSide Le Moves n → (l : ℕ → ℤ) (c : ℕ) (x y z : ℤ) → c < n → Le x y → Le y z →
    IsPast Le Moves n l c x → IsPast Le Moves n l c z
still_past s l c x y z h p q past = passes_more s l l c x z h (as_tight_refl s l) (s.trans x y z p q) past

-- at each cell a phase gains what the worker of that cell gained
pub phase_gains : (p : List Entries) → IsProblem p → (t : HeadTable) → t.problem.now ≡ p →
    (words bounds : List Bound) (dealt seats : List HeadSeat) (last : HeadSeat) → 0 < length dealt → length seats ≡ length dealt
    → All (λ s. HasSeen t words s) dealt → ((i : ℕ) (d : HeadSeat) → i < length dealt → HasWorked t i (length dealt) (get_or dealt i d) (get_or seats i d))
    → All (λ s. AreNoLooser p (seen_of s) (seen_of last)) seats → AreNoLooser p (seen_of last) bounds
    → (c : ℕ) → c < length p → IsPastCell p words bounds c
phase_gains p ok t same words bounds dealt seats last some_one n seen each joined tight c h =
    let i : ℕ = c % length dealt in
    let l : i < length dealt = mod-lt c some_one in
    let a : HeadSeat = get_or dealt i last in
    let b : HeadSeat = get_or seats i last in
    let was : seen_of a ≡ words = (seen i last l).seen_is in
    let worked = each i last l in
    let here = subst (λ (ps : List Entries). c < length ps) (sym same) h in
    let into = joined i last (omega arith) in
    λ side.
    still_past (is_side side p ok) (heads_on side words) c (seen_on side b c) (seen_on side last c) (heads_on side bounds c) h (into side c h) (tight side c h)
    (subst (λ (bs : List Bound). HasMoved side p (heads_on side bs) c (seen_on side b c)) was
    (subst (λ (ps : List Entries). HasMoved side ps (seen_on side a) c (seen_on side b c)) same (worked.moved side c here refl)))

-- so where a phase has heads, each cell is past
pub phase_past : (p : List Entries) → IsProblem p → (t : HeadTable) → t.problem.now ≡ p → (words before : List Bound) → before ≡ words →
    (dealt seats : Vec HeadSeat Global) (last : HeadSeat) (workers : ℕ) → 1 ≤ workers → vec_len dealt ≡ workers → vec_len seats ≡ vec_len dealt
    → All (λ s. HasSeen t before s) dealt.items → ((i : ℕ) (d : HeadSeat) → i < vec_len dealt → HasWorked t i (vec_len dealt) (get_or dealt.items i d) (get_or seats.items i d))
    → All (λ s. AreNoLooser t.problem.now (seen_of s) (seen_of last)) seats.items → (r : Result (Vec Bound Global) AllocError) →
    IfOk r (λ v. AreNoLooser t.problem.now (seen_of last) v.items) → IfOk r (λ v. (c : ℕ) → c < length p → IsPastCell p words v.items c)
phase_past p ok t same words before is dealt seats last workers some count count' seen each joined r =
    let n : length dealt.items ≡ workers = omega (arith, dealt.ok, count) in
    let m : length seats.items ≡ length dealt.items = omega (arith, dealt.ok, seats.ok, count') in
    let seen' = subst (λ (ws : List Bound). All (λ s. HasSeen t ws s) dealt.items) is seen in
    let v : vec_len dealt ≡ length dealt.items = omega (arith, dealt.ok) in
    let each' = subst (λ (k : ℕ). (i : ℕ) (d : HeadSeat) → i < k → HasWorked t i k (get_or dealt.items i d) (get_or seats.items i d)) v each in
    let joined' = subst (λ (ps : List Entries). All (λ s. AreNoLooser ps (seen_of s) (seen_of last)) seats.items) same joined in
    let one : 0 < length dealt.items = omega (arith, n, some) in
    ok_under (λ (v : Vec Bound Global). AreNoLooser t.problem.now (seen_of last) v.items) _ r
    (λ v tight. phase_gains p ok t same words v.items dealt.items seats.items last one m seen' each' joined'
    (subst (λ (ps : List Entries). AreNoLooser ps (seen_of last) v.items) same tight))
