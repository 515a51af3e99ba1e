-- The problem of decks encloses each choice of a step, and the pair of a constant head the chosen head.
use Rattle.deck_problems.proofs.Common.{◌≡◌, ◌<◌, ◌∙◌, ℕ, ℤ, true, Option, Some, None, List, Contains, refl, sym, subst, IfSome, Bound, IsHead, Entries, FlowModel, TimeStep, cell_count, constant_head}
use Rattle.deck_problems.proofs.Common.{is_constant, times, IsModel, IsProblemOf, time_of, lower_head, upper_head, alike_between, hull_of_numbers, IsConstantHull, EnclosesStep, Choice}
use Rattle.deck_problems.proofs.Common.{IsChoiceBetween, IsChoiceOf, IsPairOf, IsSecond, ProblemEncloses, ConstantPairIsOne, ConstantPairFits, ConstantPairEncloses, EnclosesSteps, EnclosesChoice}
use Rattle.deck_problems.proofs.Common.{IsProblemBy, EnclosesSigned, cells_of, AreGridHeads, IsProblem, ProblemFits, is_problem}
use Rattle.problem_builder.proofs.CellEnclosed.{step_encloses}
use Rattle.problem_builder.proofs.BoundsOf.{constant_head_is_enclosed, head_range, pair_fits as model_pair_fits, pair_encloses as model_pair_encloses}
use Rattle.deck_span.proofs.HullsEnclose.{hull_encloses}
use Rattle.deck_problems.proofs.OneProblem.{HasCellsOf, IsHullProblem, hull_parts, between_cells, constant_same, encloses_member, time_of_member}
use Rattle.problem_builder.specs.{ProblemFits as ModelProblemFits}

-- the cells of the second model are those of the first
pub second_cells : (a b : FlowModel) → IsSecond a b → HasCellsOf a b
second_cells a b h = between_cells a b b (alike_between a b h.alike).1

pub model_encloses : (m : FlowModel) (s : ℕ) (at : TimeStep) (old : List Bound) (p : List Entries) → IsModel m → Contains (times m) at → IsProblemOf m s at old p → EnclosesSteps s at old p m
model_encloses m s at old p valid time h before olds =
    step_encloses m s at old p before valid (time_of m at valid time) olds (cells_of m s at old p h)

module _ (a b : FlowModel) (at : TimeStep) (first : IsModel a) (second : IsSecond a b) (time : Contains (times a) at) where
  second_time : Contains (times b) at
  second_time = time_of_member a b (second_cells a b second) at time

  -- a problem, since no sum of it is too large
  hull_fits : ModelProblemFits → (s : ℕ) (old : List Bound) (p : List Entries) → AreGridHeads a old → IsHullProblem a b s at old p → IsProblem p
  hull_fits law s old p heads h =
      let grid : AreGridHeads b old = record { whole = heads.whole ∙ sym (second_cells a b second).count; range = heads.range } in
      is_problem h.first h.second p (law a s at old h.first first time heads h.is_first) (law b s at old h.second second.model second_time grid h.is_second) h.hull h.sound

  pub hull_encloses_between : (s : ℕ) (old : List Bound) (p : List Entries) → IsHullProblem a b s at old p → (x : Choice) → IsChoiceBetween a b at x → EnclosesChoice a s old p x
  hull_encloses_between s old p h x between before olds =
      hull_encloses s h.first h.second p _ _ _ h.hull
      (model_encloses a s at old h.first first time h.is_first before olds)
      (model_encloses b s at old h.second second.model second_time h.is_second before (encloses_member a b (second_cells a b second) old before olds))
      (between.cells before)

  module _ (c : ℕ) (lt : c < cell_count a.grid) (constant : is_constant a at.period c ≡ true) where
    second_below : c < cell_count b.grid
    second_below = subst (λ (n : ℕ). c < n) (sym (second_cells a b second).count) lt

    second_constant : is_constant b at.period c ≡ true
    second_constant = constant_same a b (second_cells a b second) at.period c ∙ constant

    hull_range : (lo hi : ℤ) → IsConstantHull a b at c lo hi → IsHead lo × IsHead hi
    hull_range lo hi h =
        let x = head_range a at first (time_of a at first time) c lt constant in
        let y = head_range b at second.model (time_of b at second.model second_time) c second_below second_constant in
        (lower_head _ _ _ _ _ _ h x.0 y.0, upper_head _ _ _ _ _ _ h x.1 y.1)

    hull_holds : (lo hi : ℤ) → IsConstantHull a b at c lo hi → (x : Choice) → IsChoiceBetween a b at x → EnclosesSigned lo hi 9 (x.heads c)
    hull_holds lo hi h x between =
        let p = constant_head_is_enclosed a at first (time_of a at first time) c in
        let q = constant_head_is_enclosed b at second.model (time_of b at second.model second_time) c in
        hull_of_numbers _ _ _ _ lo hi 9 (constant_head a at.period at.step c) (x.heads c) (constant_head b at.period at.step c) h p q (between.heads c lt constant)

-- Of one model, or of two.

encloses_by : (a : FlowModel) (o : Option FlowModel) (s : ℕ) (at : TimeStep) (old : List Bound) (p : List Entries) → IsModel a → IfSome o (IsSecond a) →
    Contains (times a) at → IsProblemBy a o s at old p → (x : Choice) → IsChoiceOf a o at x → EnclosesChoice a s old p x
encloses_by a None s at old p first second time h x own = λ before olds.
    subst (EnclosesStep s p) (sym (own.cells before)) (model_encloses a s at old p first time h before olds)
encloses_by a (Some b) s at old p first second time h x between = hull_encloses_between a b at first second time s old p (hull_parts a b s at old p first second.alike h) x between

-- the problem of one deck encloses its choice
pub encloses_alone : (a : FlowModel) (o : Option FlowModel) (s : ℕ) (at : TimeStep) (old : List Bound) (p : List Entries) → ((b : FlowModel) → o ≡ Some b → ⊥) →
    IsModel a → Contains (times a) at → IsProblemOf a s at old p → (x : Choice) → IsChoiceOf a o at x → EnclosesChoice a s old p x
encloses_alone a None s at old p alone first time h = encloses_by a None s at old p first tt time h
encloses_alone a (Some b) s at old p alone first time h = absurd (alone b refl)

fits_by : ModelProblemFits → (a : FlowModel) (o : Option FlowModel) (s : ℕ) (at : TimeStep) (old : List Bound) (p : List Entries) → IsModel a →
    IfSome o (IsSecond a) → Contains (times a) at → AreGridHeads a old → IsProblemBy a o s at old p → IsProblem p
fits_by law a None s at old p first second time heads h = law a s at old p first time heads h
fits_by law a (Some b) s at old p first second time heads h = hull_fits a b at first second time law s old p heads (hull_parts a b s at old p first second.alike h)

pair_by : (a : FlowModel) (o : Option FlowModel) (at : TimeStep) (c : ℕ) (lo hi low high : ℤ) → IsPairOf a o at c lo hi → IsPairOf a o at c low high → (lo ≡ low) × (hi ≡ high)
pair_by a None at c lo hi low high h k = (h.0 ∙ sym k.0, h.1 ∙ sym k.1)
pair_by a (Some b) at c lo hi low high h k = (h.low ∙ sym k.low, h.high ∙ sym k.high)

range_by : (a : FlowModel) (o : Option FlowModel) (at : TimeStep) (c : ℕ) (lo hi : ℤ) → IsModel a → IfSome o (IsSecond a) → Contains (times a) at →
    c < cell_count a.grid → is_constant a at.period c ≡ true → IsPairOf a o at c lo hi → IsHead lo × IsHead hi
range_by a None at c lo hi first second time lt k h = model_pair_fits a at c lo hi first time lt k h
range_by a (Some b) at c lo hi first second time lt k h = hull_range a b at first second time c lt k lo hi h

holds_by : (a : FlowModel) (o : Option FlowModel) (at : TimeStep) (c : ℕ) (lo hi : ℤ) → IsModel a → IfSome o (IsSecond a) → Contains (times a) at →
    c < cell_count a.grid → is_constant a at.period c ≡ true → IsPairOf a o at c lo hi → (x : Choice) → IsChoiceOf a o at x → EnclosesSigned lo hi 9 (x.heads c)
holds_by a None at c lo hi first second time lt k h x own = subst (EnclosesSigned lo hi 9) (sym (own.heads c)) (model_pair_encloses a at c lo hi first time lt k h)
holds_by a (Some b) at c lo hi first second time lt k h x between = hull_holds a b at first second time c lt k lo hi h x between

pub problem_fits : ModelProblemFits → ProblemFits
problem_fits law d s at old p b h = fits_by law d.first d.second s at old p b.decks.first b.decks.second b.time b.heads h

pub problem_encloses : ProblemEncloses
problem_encloses d s at old p b h = encloses_by d.first d.second s at old p b.decks.first b.decks.second b.time h

pub pair_is_one : ConstantPairIsOne
pair_is_one d at c lo hi low high k x y = pair_by d.first d.second at c lo hi low high x y

pub pair_fits : ConstantPairFits
pair_fits d at c lo hi k x = range_by d.first d.second at c lo hi k.decks.first k.decks.second k.time k.within k.constant x

pub pair_encloses : ConstantPairEncloses
pair_encloses d at c lo hi k x = holds_by d.first d.second at c lo hi k.decks.first k.decks.second k.time k.within k.constant x
