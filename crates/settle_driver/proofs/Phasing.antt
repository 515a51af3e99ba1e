-- Phases cover plain rounds, and reach the settled pair where that number of rounds settles.
use Rattle.settle_driver.proofs.Common.{◌≡◌, ℕ, ◌+◌, ◌<◌, sym, subst, List, length, add-one, ℤ, inl, inr, arith, false, ◌≤ℤ◌, ◌<ℤ◌, Bound, Side, Low, High, Entries, IsHead, IsProblem, Edges}
use Rattle.settle_driver.proofs.Common.{OpenHeads, IsBarrier, RoundsSettleBoth, AreOnTheWay, AreSettled, IsFirstOpen, IsUnfinished, IsFirstSettled, RoundsSettle, IsPast, lower_at, upper_at, IsRaise}
use Rattle.settle_driver.proofs.Common.{IsSink, CanMove, first_settled, CoversRounds, covers_none, rounds_settle, IsSide, past_covers, covers_more, IsAsTight, Moves, heads_on, is_side, IsPastCell}
use Rattle.settle_driver.proofs.Common.{AreBothSettled, IsFirstSide, ints, by_lt_z, Option, Some, None, MatchOption, is_some, edge_on, way_on}
use lib.Signed.{lt_z}

one_more : {Le : ℤ → ℤ → Type 0} {Moves : ℕ → ℤ → (ℕ → ℤ) → Type 0} {n : ℕ} → IsSide Le Moves n → (k : ℕ) (edge w next : ℕ → ℤ) →
    CoversRounds Le Moves n k edge w → ((c : ℕ) → c < n → IsPast Le Moves n w c (next c)) → CoversRounds Le Moves n (k + 1) edge next
one_more {Le} {Moves} {n} s k edge w next before past =
    subst (λ (i : ℕ). CoversRounds Le Moves n i edge next) (sym (add-one k)) (covers_more s k edge w next before (past_covers s w next past))

-- A cell that can move, and one that can't.
module _ (p : List Entries) (w : List Bound) (c : ℕ) (r : ℤ) where
  pub raise_moves : IsRaise p (lower_at w) c r → lower_at w c <ℤ r → CanMove p w c Low
  raise_moves t above = elim t.reached [
    | inl e ↦ absurd (omega (arith, ints))
    | inr (head, can) ↦ (r, head, can, above)
  ]

  pub raise_stays : IsRaise p (lower_at w) c r → r ≤ℤ lower_at w c → CanMove p w c Low → ⊥
  raise_stays t below (v, head, can, above) = let k = t.furthest v head can in omega (arith, ints, k)

  pub sink_moves : IsSink p (upper_at w) c r → r <ℤ upper_at w c → CanMove p w c High
  sink_moves t below = elim t.reached [
    | inl e ↦ absurd (omega (arith, ints))
    | inr (head, can) ↦ (r, head, can, below)
  ]

  pub sink_stays : IsSink p (upper_at w) c r → upper_at w c ≤ℤ r → CanMove p w c High → ⊥
  sink_stays t above (v, head, can, below) = let k = t.furthest v head can in omega (arith, ints, k)

  stays_by_test : IsRaise p (lower_at w) c r → lt_z (lower_at w c) r ≡ false → CanMove p w c Low → ⊥
  stays_by_test t e = raise_stays t (omega (arith, ints, e))

-- the first side on which cell c can move, or none, by the tests of its raise and its sink value
pub side_by_tests : (p : List Entries) (w : List Bound) (c : ℕ) (l h : ℤ) (o : Option Side) → IsRaise p (lower_at w) c l → IsSink p (upper_at w) c h →
    MatchOption o ((lt_z (lower_at w c) l ≡ false) × (lt_z h (upper_at w c) ≡ false)) (IsFirstSide (lt_z (lower_at w c) l) (lt_z h (upper_at w c))) →
    MatchOption o ((s : Side) → CanMove p w c s → ⊥) (λ s. CanMove p w c s × (s ≡ High → CanMove p w c Low → ⊥))
side_by_tests p w c l h None t u (low, high) = λ s. elim s as (λ x. CanMove p w c x → ⊥) [
  | Low ↦ stays_by_test p w c l t low
  | High ↦ sink_stays p w c h u (omega (arith, ints, high))
]
side_by_tests p w c l h (Some Low) t u low = (raise_moves p w c l t (omega (arith, ints, low)), λ e. absurd cc)
side_by_tests p w c l h (Some High) t u (low, high) = (sink_moves p w c h u (omega (arith, ints, high)), λ e. stays_by_test p w c l t low)

-- where no cell can move the words are settled
pub none_open : (p : List Entries) (w : List Bound) → ((side : Side) (c : ℕ) → c < length p → CanMove p w c side → ⊥) → AreBothSettled p w
none_open p w none Low c i v head can = by_lt_z (lower_at w c) v (λ above. absurd (none Low c i (v, head, can, above))) (λ k. k)
none_open p w none High c i v head can = by_lt_z v (upper_at w c) (λ below. absurd (none High c i (v, head, can, below))) (λ k. k)

-- settled words have no cell that can move
pub settled_stays : (p : List Entries) (w : List Bound) (c : ℕ) (side : Side) → c < length p → AreBothSettled p w → CanMove p w c side → ⊥
settled_stays p w c Low i settled (v, head, can, above) = let k = settled Low c i v head can in omega (arith, ints, k)
settled_stays p w c High i settled (v, head, can, below) = let k = settled High c i v head can in omega (arith, ints, k)

-- the case that an option is in
pub where_none : {T : Type 0} (o : Option T) (P : Type 0) (Q : T → Type 0) → is_some o ≡ false → MatchOption o P Q → P
where_none None P Q e m = m
where_none (Some x) P Q e m = absurd cc

pub where_some : {T : Type 0} (o : Option T) (x : T) (P : Type 0) (Q : T → Type 0) → o ≡ Some x → MatchOption o P Q → Q x
where_some o x P Q e m = subst (λ (y : Option _). MatchOption y P Q) e m

-- what k phases have made of a barrier's own words
pub record ArePhased (p : List Entries) (b : Edges) (k : ℕ) (w : List Bound) : Type 0 where
  pub way : AreOnTheWay p b w
  pub covers : (side : Side) → CoversRounds (IsAsTight side) (Moves side p) (length p) k (edge_on side b) (heads_on side w)

-- a barrier and its rounds on each side
pub edge_heads : (side : Side) (p : List Entries) (b : Edges) → IsBarrier p b → (c : ℕ) → c < length p → IsHead (edge_on side b c)
edge_heads Low p b barrier = barrier.floor
edge_heads High p b barrier = barrier.ceiling

pub rounds_on : (side : Side) (p : List Entries) (b : Edges) (k : ℕ) → RoundsSettleBoth p b k → RoundsSettle (IsAsTight side) (Moves side p) (length p) k (edge_on side b)
rounds_on Low p b k rounds = rounds.low
rounds_on High p b k rounds = rounds.high

module _ (p : List Entries) (b : Edges) (ok : IsProblem p) where
  pub phased_never : (w : List Bound) → AreOnTheWay p b w → ArePhased p b 0 w
  phased_never w way = record { way = way; covers = λ side. covers_none (is_side side p ok) (edge_on side b) (heads_on side w) (way_on side p b w way).past_barrier }

  pub phased_again : (w next : List Bound) (k : ℕ) → ArePhased p b k w → AreOnTheWay p b next → ((c : ℕ) → c < length p → IsPastCell p w next c) → ArePhased p b (k + 1) next
  phased_again w next k s way past = record {
    way = way;
    covers = λ side. one_more (is_side side p ok) k (edge_on side b) (heads_on side w) (heads_on side next) (s.covers side) (λ c i. past c i side);
  }

  pub settled_on_the_way : (w : List Bound) → AreOnTheWay p b w → AreBothSettled p w → AreSettled p b w
  settled_on_the_way w way settled = record { whole = way.whole; pair = record { low = first Low; high = first High } }
    where
      first : (side : Side) → IsFirstSettled (IsAsTight side) (Moves side p) (length p) (edge_on side b) (heads_on side w)
      first side = first_settled (is_side side p ok) (edge_on side b) (heads_on side w) (way_on side p b w way) (settled side)

  -- where k plain rounds settle, k phases do
  pub phased_settles : (w : List Bound) (k : ℕ) → IsBarrier p b → ArePhased p b k w → RoundsSettleBoth p b k → AreBothSettled p w
  phased_settles w k barrier s rounds side =
      rounds_settle (is_side side p ok) k (edge_on side b) (heads_on side w) (edge_heads side p b barrier) (way_on side p b w s.way).under (s.covers side) (rounds_on side p b k rounds)

  -- words on the way with a cell that can move show that the rounds which would settle them do not settle
  pub open_unfinished : (w : List Bound) (k : ℕ) (o : OpenHeads) → AreOnTheWay p b w → (RoundsSettleBoth p b k → AreBothSettled p w) → o.words ≡ w →
      IsFirstOpen p w o.cell o.side → IsUnfinished p b k o
  open_unfinished w k o way settles same first = record {
    cause = λ rounds. settled_stays p w o.cell o.side first.within (settles rounds) first.moves;
    words = subst (AreOnTheWay p b) (sym same) way;
    open_cell = subst (λ (x : List Bound). IsFirstOpen p x o.cell o.side) (sym same) first;
  }
