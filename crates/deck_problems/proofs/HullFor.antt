-- The hull of two decks' problems and constant heads.
use Rattle.deck_problems.proofs.Common.{◌≡◌, ◌∙◌, ◌<◌, ℕ, inl, inr, Option, Some, None, List, Contains, get_or, length, map, refl, sym, subst, ap, arith, IfSome, get_or_default, Bound, IsProblem}
use Rattle.deck_problems.proofs.Common.{Entries, no_entries, FlowModel, TimeStep, IsProblemOf, IsBuildFault, fixed_shape, fixed_hull, cell_shape, zip_with, IsHull, hull_at, hull_count, hull_keeps}
use Rattle.deck_problems.proofs.Common.{same_lengths, zip_at, zip_left, Decks, AreConstantHeadsFor, IsSecond, AreDecks, AreHullBounds, HasCellsOf, IsHullRefusal, IsProblemFor, IsFaultFor}
use Rattle.deck_problems.proofs.Common.{AreConstantHeads, entries_at, get_or-map, none, Bool, false, cond, cell_count, is_constant, no_bound, bound_at, known_bound, constant_bound, item_is}
use Rattle.deck_problems.proofs.Common.{IsHullBound, Result, Ok, Err, option_to_list, NoBound, problem_of, unless_refused, cell_hull, first_refusal, hull_or_refusal, problem_by, IsCellNamed}
use Rattle.step_problem.specs.{declared.entry.Fixed.Fixed, declared.refusal.BoundFault.BoundFault}
use Rattle.std.specs.Prelude.{true}
use Rattle.problem_hull.proofs.Refusals.{no_refusal}
use Rattle.std.proofs.lemmas.List.FromFn.{length-map-range_with_len}
use Rattle.deck_problems.proofs.{Enclosing.second_cells, OneProblem.constant_same}
use Rattle.step_problem.specs.declared.refusal.BoundFault.TheVariants as build

-- The hull names the cells of the first problem.

named_fixed : (p q : List Fixed) → length q ≡ length p → (c : ℕ) → (x : Fixed) × Contains (zip_with fixed_hull p q) x × (c ≡ x.source) → (x : Fixed) × Contains p x × (c ≡ x.source)
named_fixed p q same c (x, (i, lt, e), source) =
    let r = zip_with fixed_hull p q in
    let inside : i < length p = omega (arith, lt, same_lengths (λ (y : Fixed). y.source) p r (zip_left (λ y. y.source) fixed_hull (λ y z. refl) p q same)) in
    let of_first = ap (λ (y : Fixed). y.source) (sym e ∙ get_or_default r i x (fixed_hull x x) lt ∙ zip_at fixed_hull p q i x x same) in
    (get_or p i x, (i, inside, get_or_default p i (get_or p i x) x inside), source ∙ of_first)

hull_named : (p q r : List Entries) → IsHull p q r → (c : ℕ) → IsCellNamed r c → IsCellNamed p c
hull_named p q r h c (k, lt, by) =
    let here = hull_at p q r h k in
    let inside : k < length p = omega (arith, lt, hull_count p q r h) in
    let within : k < length q = omega (arith, inside, same_lengths cell_shape p q h.alike) in
    let same = same_lengths fixed_shape (entries_at p k).fixed (entries_at q k).fixed (ap (λ (e : Entries). e.fixed) (shape_at p q k inside within h.alike)) in (
      k,
      inside,
      elim by [
        | inl e ↦ inl (e ∙ ap (λ (x : Entries). x.id) here)
        | inr f ↦ inr
            (named_fixed _ _ same c (subst (λ (xs : List Fixed). (x : Fixed) × Contains xs x × (c ≡ x.source)) (ap (λ (x : Entries). x.fixed) here) f))
      ],
    )
  where
    shape_at : (p q : List Entries) (k : ℕ) → k < length p → k < length q → map cell_shape q ≡ map cell_shape p → cell_shape (entries_at q k) ≡ cell_shape (entries_at p k)
    shape_at p q k lt below e = sym (get_or-map cell_shape q k no_entries no_entries below) ∙ ap (λ l. get_or l k no_entries) e ∙ get_or-map cell_shape p k no_entries no_entries lt

pub hull_cells : (m : FlowModel) (at : TimeStep) (p q r : List Entries) → IsHull p q r → HasCellsOf m at p → HasCellsOf m at r
hull_cells m at p q r h k = record { cells = hull_keeps p q r h (λ e. e.id) (λ a b. refl) ∙ k.cells; named = λ c n. k.named c (hull_named p q r h c n) }

-- The constant heads of one deck, and of two.

-- the item of a cell, if its head is constant and if it isn't
known_at : (m : FlowModel) (at : TimeStep) (xs : List Bound) → AreConstantHeads m at xs → (c : ℕ) → c < cell_count m.grid → (b : Bool) →
    is_constant m at.period c ≡ b → bound_at xs c ≡ cond b (constant_bound m at c) no_bound
known_at m at xs h c lt b e = item_is (known_bound m at) no_bound (cell_count m.grid) xs h c lt ∙ ap (λ q. cond q (constant_bound m at c) no_bound) e

heads_count : (m : FlowModel) (at : TimeStep) (xs : List Bound) → AreConstantHeads m at xs → length xs ≡ cell_count m.grid
heads_count m at xs h = ap length h ∙ length-map-range_with_len (known_bound m at) 0 (cell_count m.grid)

pub constants_alone : (a : FlowModel) (o : Option FlowModel) (at : TimeStep) (heads : List Bound) → ((b : FlowModel) → o ≡ Some b → ⊥) →
    AreConstantHeads a at heads → AreConstantHeadsFor (record { first = a; second = o }) at heads
constants_alone a None at heads alone h = record {
  count = heads_count a at heads h;
  each = λ c lt. record {
    constant = λ e. let k = known_at a at heads h c lt true e in (ap (λ (x : Bound). x.low) k, ap (λ (x : Bound). x.high) k);
    other = λ e. known_at a at heads h c lt false e;
  };
}
constants_alone a (Some b) at heads alone h = absurd (alone b refl)

constants_hulled : (a b : FlowModel) (at : TimeStep) (xs ys rs : List Bound) → IsSecond a b → AreConstantHeads a at xs → AreConstantHeads b at ys →
    AreHullBounds xs ys rs → AreConstantHeadsFor (record { first = a; second = Some b }) at rs
constants_hulled a b at xs ys rs second h k r =
    let cells = second_cells a b second in
    record {
      count = r.whole ∙ heads_count a at xs h;
      each = λ c lt.
          let hull = r.each c (omega (arith, lt, heads_count a at xs h)) in
          let below : c < cell_count b.grid = subst (λ (n : ℕ). c < n) (sym cells.count) lt in
          let of : (q : Bool) → is_constant a at.period c ≡ q → IsHullBound (cond q (constant_bound a at c) no_bound) (cond q (constant_bound b at c) no_bound) (bound_at rs c) =
          λ q e. subst (λ (x : Bound). IsHullBound x (cond q (constant_bound b at c) no_bound) (bound_at rs c)) (known_at a at xs h c lt q e)
          (subst (λ (y : Bound). IsHullBound (bound_at xs c) y (bound_at rs c)) (known_at b at ys k c below q (constant_same a b cells at.period c ∙ e)) hull) in
          record {
            constant = λ e. of true e;
            other = λ e. let none = of false e in let low = none.low in let high = none.high in λ i. record { low = low i; high = high i };
          };
    }

module _ (d : Decks) (b : FlowModel) (is : d.second ≡ Some b) where
  pub second_is : AreDecks d → IsSecond d.first b
  second_is h = subst (λ (o : Option FlowModel). IfSome o (IsSecond d.first)) is h.second

  pub constants_for : (at : TimeStep) (xs ys rs : List Bound) → AreDecks d → AreConstantHeads d.first at xs → AreConstantHeads b at ys → AreHullBounds xs ys rs → AreConstantHeadsFor d at rs
  constants_for at xs ys rs decks h k r =
      subst (λ (o : Option FlowModel). AreConstantHeadsFor (record { first = d.first; second = o }) at rs) (sym is) (constants_hulled d.first b at xs ys rs (second_is decks) h k r)

  module _ (s : ℕ) (at : TimeStep) (old : List Bound) where
    -- the step's result, by those of the two models
    both : (x y r : Result (List Entries) NoBound) → problem_of d.first s at old ≡ x → problem_of b s at old ≡ y → hull_or_refusal x y ≡ r → problem_by d.first d.second s at old ≡ r
    both x y r h k e = ap (λ (o : Option FlowModel). problem_by d.first o s at old) is ∙ (λ t. hull_or_refusal (h t) (k t)) ∙ e

    pub problem_of_hull : (p q r : List Entries) → IsProblemOf d.first s at old p → IsProblemOf b s at old q → IsHull p q r → IsProblem r → IsProblemFor d s at old r
    problem_of_hull p q r h k hull fits =
        both (Ok p) (Ok q) (Ok r) h k (ap (λ o. unless_refused (option_to_list o) (zip_with cell_hull p q)) (ap first_refusal (sym hull.is) ∙ no_refusal r fits) ∙ ap Ok (sym hull.is))

    pub second_refused : (p : List Entries) → IsProblemOf d.first s at old p → (fault : BoundFault) → IsBuildFault b s at old fault → IsFaultFor d s at old fault
    second_refused p h (build.NoBound n) x = both (Ok p) (Err n) (Err n) h x refl
    second_refused p h build.Memory x = tt

    pub hull_refused : (p q : List Entries) → IsProblemOf d.first s at old p → IsProblemOf b s at old q → (fault : BoundFault) → IsHullRefusal p q fault → IsFaultFor d s at old fault
    hull_refused p q h k (build.NoBound n) x = both (Ok p) (Ok q) (Err n) h k (ap (λ o. unless_refused (option_to_list o) (zip_with cell_hull p q)) x.first)
    hull_refused p q h k build.Memory x = tt
