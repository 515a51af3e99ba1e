-- A claim, a split and a join keep the rule.
use Rattle.head_table.proofs.Common.{◌≡◌, ℕ, List, get_or, set, ℤ, sym, refl, ◌∙◌, subst, ⊎_elim, length-set, none, some, get_elem?, step, keeps, Allows, Splits, at_snoc, set_again, Entries, Side}
use Rattle.head_table.proofs.Common.{Edges, heads_on, Known, words_on, edge_on, OnTheWay, WereSeen, IsTableKept, claim_play, zero, suc, ◌<◌, [], ◌∷◌, length, ap, arith, ints, clamps, Bound, Low, High}
use Rattle.head_table.proofs.Common.{IsHead, IsAsTight, tightest, tighter_of, true, Joins, set_else, IsSound, IsKnown, join_views, spent_view, tighter_head, ◌+◌, ◌*◌, some-injective, some-ne-none}
use Rattle.head_table.proofs.Common.{opening, IsProblem, AreOnTheWay, same_on_the_way, same_seen, seen_itself, is_side, starting, Result, Ok, Err, IfOk, Final, Seen, AreNoLooser, way_on}
use Rattle.head_table.proofs.{WordReads.counted_words, Seeing.views_stay, Seeing.KnownMe, Seeing.Rule}

module _ (cells : List Entries) (edges : Edges) where
  -- a step on the counter
  pub claims : (slots id : ℕ) (me : KnownMe) (f : ℕ → ℕ) → Allows (Rule cells edges) slots id me 0 f (claim_play (step slots 0 1 0 none) me)
  claims slots id me f s r _ at small = let x : ℕ = f (get_or s.words 0 0) in let ws : List ℕ = set s.words 0 x in
      let same : (side : Side) → words_on side ws ≡ words_on side s.words = λ side. counted_words side s.words x in (
        me.0,
        keeps,
        tt,
        record {
          wide = length-set s.words 0 x ∙ r.wide;
          way = λ side. subst (OnTheWay side cells (edge_on side edges)) (sym (same side)) (r.way side);
          each_seat = λ j v e l. let f = r.each_seat j v (subst (λ (vs : List Known). get_elem? vs j ≡ some v) (set_again s.views id me.0 at) e) l in record {
            problem_is = f.problem_is;
            barrier_is = f.barrier_is;
            whole = f.whole;
            heads = λ side. subst (λ (g : ℕ → ℤ). WereSeen side cells g (heads_on side v.seen)) (sym (same side)) (f.heads side);
          };
        },
        refl,
      )

  pub splits : (id : ℕ) (v : Known) → Splits (Rule cells edges) id v v v
  splits id v s r at = record {
    wide = r.wide;
    way = r.way;
    each_seat = λ j u e l.
        let old : (i : ℕ) (y : Known) → get_elem? (set s.views id v) i ≡ some y → get_elem? s.views i ≡ some y =
        λ i y g. subst (λ (vs : List Known). get_elem? vs i ≡ some y) (set_again s.views id v at) g in
        ⊎_elim (λ (g : get_elem? (set s.views id v) j ≡ some u). r.each_seat j u (old j u g) l)
        (λ (g : v ≡ u). r.each_seat id u (subst (λ (y : Known). get_elem? s.views id ≡ some y) g at) l)
        (at_snoc (set s.views id v) v u j e);
  }

pub tightest_at : (side : Side) (xs ys : List Bound) (c : ℕ) → c < length xs → c < length ys → heads_on side (tightest xs ys) c ≡ tighter_of side (heads_on side xs c) (heads_on side ys c)
tightest_at side [] ys c h l = absurd (omega arith)
tightest_at side (x ∷ xs) [] c h l = absurd (omega arith)
tightest_at Low (x ∷ xs) (y ∷ ys) zero h l = refl
tightest_at High (x ∷ xs) (y ∷ ys) zero h l = refl
tightest_at side (x ∷ xs) (y ∷ ys) (suc c) h l = tightest_at side xs ys c (omega arith) (omega arith)

pub length_tightest : (xs ys : List Bound) → length xs ≡ length ys → length (tightest xs ys) ≡ length xs
length_tightest [] ys e = refl
length_tightest (x ∷ xs) [] e = absurd (omega arith)
length_tightest (x ∷ xs) (y ∷ ys) e = ap suc (length_tightest xs ys (omega arith))

pub tighter_within : (side : Side) (x y z : ℤ) → IsAsTight side x z → IsAsTight side y z → IsAsTight side (tighter_of side x y) z
tighter_within Low x y z p q = omega (arith, ints, clamps)
tighter_within High x y z p q = omega (arith, ints, clamps)

pub joined_at : (side : Side) (v w : Known) (n : ℕ) → length v.seen ≡ n → length w.seen ≡ n → (c : ℕ) → c < n → heads_on side (join_views v w).seen c ≡
    tighter_of side (heads_on side v.seen c) (heads_on side w.seen c)
joined_at side v w n a b c h = tightest_at side v.seen w.seen c (omega arith) (omega arith)

pub joins : (cells : List Entries) (edges : Edges) (id other : ℕ) (v w : Known) → v.live ≡ true → w.live ≡ true → Joins (IsTableKept cells edges) id v other w (join_views v w) spent_view
joins cells edges id other v w live live' s r at apart at' = let mine = r.each_seat id v at live in
    let theirs = r.each_seat other w (sym (set_else s.views id other (join_views v w) apart) ∙ at') live' in record {
      wide = r.wide;
      way = r.way;
      each_seat = views_stay (IsKnown cells edges s.words) (set s.views id (join_views v w)) other spent_view (λ l. (cc))
          (views_stay (IsKnown cells edges s.words) s.views id (join_views v w) (λ _. record {
            problem_is = mine.problem_is;
            barrier_is = mine.barrier_is;
            whole = length_tightest v.seen w.seen (mine.whole ∙ sym theirs.whole) ∙ mine.whole;
            heads = λ side. record {
              behind = λ c h. subst (λ (y : ℤ). IsAsTight side y (words_on side s.words c)) (sym (joined_at side v w (length cells) mine.whole theirs.whole c h))
                  (tighter_within side _ _ _ ((mine.heads side).behind c h) ((theirs.heads side).behind c h));
              heads = λ c h. subst IsHead (sym (joined_at side v w (length cells) mine.whole theirs.whole c h)) (tighter_head side _ _ ((mine.heads side).heads c h) ((theirs.heads side).heads c h));
            };
          }) r.each_seat);
    }

-- what the seat that stays has seen
pub sound_joined : (v w : Known) → w.problem ≡ v.problem → IsSound v → IsSound w → IsSound (join_views v w)
sound_joined v w e s t = grind (arith, length_tightest, joined_at, tighter_head)

-- A new table meets the rule; and what closed words keep.
only_one : (cells : List Entries) (edges : Edges) (raw : List ℕ) (u : Known) → IsKnown cells edges raw u → (j : ℕ) (v : Known) → get_elem? (u ∷ []) j ≡ some v →
    v.live ≡ true → IsKnown cells edges raw v
only_one cells edges raw u k zero v e l = subst (IsKnown cells edges raw) (some-injective u v e) k
only_one cells edges raw u k (suc j) v e l = absurd (some-ne-none v (sym e))

pub opens : (cells : List Entries) (edges : Edges) → IsProblem cells → (words : List Bound) (raw : List ℕ) → length raw ≡ 2 * length words + 1
    → ((side : Side) (c : ℕ) → c < length words → words_on side raw c ≡ heads_on side words c) → AreOnTheWay cells edges words → IsTableKept cells edges (opening raw [] (starting words cells edges))
opens cells edges ok words raw wide same k = let n = k.whole in
    let same' : (side : Side) (c : ℕ) → c < length cells → words_on side raw c ≡ heads_on side words c = λ side c h. same side c (omega arith) in
    let one : IsKnown cells edges raw (starting words cells edges) = record {
      problem_is = refl;
      barrier_is = refl;
      whole = k.whole;
      heads = λ side. same_seen (is_side side cells ok) (heads_on side words) (words_on side raw) (heads_on side words) (heads_on side words) (same' side)
          (λ c h. refl) (seen_itself (is_side side cells ok) (edge_on side edges) (heads_on side words) (way_on side cells edges words k));
    } in record {
      wide = omega arith;
      way = λ side. same_on_the_way (is_side side cells ok) (edge_on side edges) (heads_on side words) (words_on side raw) (same' side) (way_on side cells edges words k);
      each_seat = only_one cells edges raw (starting words cells edges) one;
    }

-- the words at the end, with the last view of a seat
pub record AtEnd (cells : List Entries) (edges : Edges) (ws : List ℕ) (v : Known) : Type 0 where
  pub way : (side : Side) → OnTheWay side cells (edge_on side edges) (words_on side ws)
  pub seat : IsKnown cells edges ws v

pub ends : (cells : List Entries) (edges : Edges) (id : ℕ) (v : Known) (ws : List ℕ) (xs : List (Unit {0})) → v.live ≡ true → Final (Seen (IsTableKept cells edges) id v) ws xs → AtEnd cells edges ws v
ends cells edges id v ws xs live f = let k = f.1.0 in subst (λ (z : List ℕ). AtEnd cells edges z v) f.2 record { way = k.way; seat = k.each_seat id v f.1.1 live }

pub closes : (cells : List Entries) (edges : Edges) → IsProblem cells → (ws : List ℕ) (v : Known) → AtEnd cells edges ws v → (bs : List Bound) → length bs ≡ length cells
    → ((side : Side) (c : ℕ) → c < length cells → heads_on side bs c ≡ words_on side ws c) → AreOnTheWay cells edges bs × AreNoLooser cells v.seen bs
closes cells edges ok ws v e bs n same =
    let way : (side : Side) → OnTheWay side cells (edge_on side edges) (heads_on side bs) = λ side.
    same_on_the_way (is_side side cells ok) (edge_on side edges) (words_on side ws) (heads_on side bs) (same side) (e.way side) in (
      record { whole = n; low = way Low; high = way High },
      λ side c h. subst (IsAsTight side (heads_on side v.seen c)) (sym (same side c h)) ((e.seat.heads side).behind c h),
    )

pub ok_of_two : {A E : Type 0} (P Q S : A → Type 0) (r : Result A E) → IfOk r P → IfOk r Q → ((a : A) → P a → Q a → S a) → IfOk r S
ok_of_two P Q S (Ok a) p q f = f a p q
ok_of_two P Q S (Err e) p q f = tt

pub ok_under : {A E : Type 0} (P Q : A → Type 0) (r : Result A E) → ((a : A) → P a → Q a) → IfOk r P → IfOk r Q
ok_under P Q (Ok a) f p = f a p
ok_under P Q (Err e) f p = tt
