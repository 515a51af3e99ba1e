-- A step of a plan is decided: its two decks' steps, and then their differences.
use Rattle.plan_run.proofs.Common.{List, ap, arith, inl, inr, length, refl, subst, suc, sym, zero, ℕ, ◌<◌, ◌∙◌, ◌≡◌, ◌⊎◌, Contains, cases_order, ext_get_or, false, if◌then◌else◌, Bound, NoBound}
use Rattle.plan_run.proofs.Common.{Entries, IsProblem, PairKind, certified, entries_at, no_entries, settled, Limits, TimeStep, cell_count, times, variable_cells, bound_at, Decks, IsBefore}
use Rattle.plan_run.proofs.Common.{IsProblemFor, ProblemFits, HasNoHeads, IsStepBy, RefusalIsOne, StepExcludesRefusal, StepIsOne, same_bounds, IsDifferenceProblem, PlanHeads, PlanPart, Base, Planned}
use Rattle.plan_run.proofs.Common.{Differences, PlanSolved, PlanTask, AreByCell, AreDifferencesBy, ArePlanHeads, HasNoBoundAt, IsBaseStep, IsPlanStep, IsPlanTask, IsPlannedDeckStep, plan_pairs}
use Rattle.plan_run.proofs.Common.{cells_same, FailBy}
use Rattle.deck_problems.proofs.Counted.{problem_count}
use Rattle.step_chain.specs.declared.solved.Solved.{Solved}
use Rattle.plan_step.proofs.Fits.{is_problem}
use Rattle.plan_chain.proofs.Settling.{times_planned}
use Rattle.plan_run.proofs.Decided.{HasNoPair, HasPair, IsDecided, PairLaws, pair_decided}
use Rattle.step_chain.specs.declared.solved.StepFault.TheVariants as fault

-- a number below n is so, or none is
which : (P : ℕ → Type 0) → ((k : ℕ) → P k ⊎ (P k → ⊥)) → (n : ℕ) → ((k : ℕ) × (k < n) × P k) ⊎ ((k : ℕ) → k < n → P k → ⊥)
which P decide zero = inr (λ k lt p. absurd (omega (arith, lt)))
which P decide (suc n) = elim (which P decide n) [
  | inl (k, lt, p) ↦ inl (k, omega (arith, lt), p)
  | inr none ↦ (elim (decide n) [
    | inl p ↦ inl (n, omega arith, p)
    | inr not_last ↦ inr (λ k lt p. elim (cases_order k n) [
      | inl here ↦ not_last (subst P here p)
      | inr (inl less) ↦ none k less p
      | inr (inr more) ↦ absurd (omega (arith, lt, more))
    ])
  ])
]

same_number : (c d : ℕ) → (c ≡ d) ⊎ (c ≡ d → ⊥)
same_number c d = elim (cases_order c d) [
  | inl same ↦ inl same
  | inr (inl less) ↦ inr (λ e. omega (arith, less, e))
  | inr (inr more) ↦ inr (λ e. omega (arith, more, e))
]

-- bounds that are placed by cell number are one list
pub by_cell_one : (count : ℕ) (p : List Entries) (bounds xs ys : List Bound) → AreByCell count p bounds xs → AreByCell count p bounds ys → xs ≡ ys
by_cell_one count p bounds xs ys x y =
    same_bounds xs ys (x.whole ∙ sym y.whole) (λ c within. elim (which (λ i. c ≡ (entries_at p i).id) (λ i. same_number c (entries_at p i).id) (length p)) [
      | inl (i, lt, same) ↦ (let P : ℕ → Type 0 = λ j. bound_at xs j ≡ bound_at ys j in subst P (sym same) (x.variable i lt ∙ sym (y.variable i lt)))
      | inr none ↦ x.other c none ∙ sym (y.other c none)
    ])

-- two plans' steps have one problem of their differences
pub one_problem : (base planned : List Entries) (xs ys olds : List Bound) (p q : List Entries) → IsDifferenceProblem base planned xs ys olds p →
    IsDifferenceProblem base planned xs ys olds q → p ≡ q
one_problem base planned xs ys olds p q h k = ext_get_or no_entries p q (h.as_many ∙ sym k.as_many) (λ c lt.
    h.cells c (omega (arith, lt, h.as_many)) ∙ sym (k.cells c (omega (arith, lt, h.as_many))))

module _ (laws : PairLaws) (limits : Limits) (x y : Solved) (olds : List Bound) (count : ℕ) (kind : PairKind) (is_settled : kind ≡ settled)
    (fits : (p : List Entries) → IsDifferenceProblem x.problem y.problem x.bounds y.bounds olds p → IsProblem p) where
  abbrev Are : Solved → Type 0
  Are v = AreDifferencesBy limits x y olds count kind v

  -- they have this refusal; it doesn't depend on the rounds
  abbrev AreRefused : NoBound → Type 0
  AreRefused n = FailBy limits x y olds 0 (fault.NoBound n)

  same : (p q : List Entries) → IsDifferenceProblem x.problem y.problem x.bounds y.bounds olds p → IsDifferenceProblem x.problem y.problem x.bounds y.bounds olds q → p ≡ q
  same = one_problem x.problem y.problem x.bounds y.bounds olds

  pair_in : (v : Solved) → Are v → HasPair limits v.problem v.bounds
  pair_in v h =
      let P : PairKind → Type 0 = λ k. AreDifferencesBy limits x y olds count k v in
      let s = subst P is_settled h in
      record { barrier = s.barrier; of_problem = s.of_problem; pair = s.pair; certificate = s.certificate }

  decided : (p : List Entries) → IsDifferenceProblem x.problem y.problem x.bounds y.bounds olds p → IsDecided (HasPair limits p) (HasNoPair limits p)
  decided p is = pair_decided laws p (fits p is) limits

  pub differences_decided : IsDecided Are AreRefused
  differences_decided = record {
    value = λ v w h k.
        let problems : v.problem ≡ w.problem = same v.problem w.problem h.problem k.problem in
        let P : List Entries → Type 0 = λ p. HasPair limits p w.bounds in
        let bounds : v.bounds ≡ w.bounds = (decided v.problem h.problem).value v.bounds w.bounds (pair_in v h) (subst P (sym problems) (pair_in w k)) in
        let Q : List Entries → Type 0 = λ p. AreByCell count p w.bounds w.heads in
        let R : List Bound → Type 0 = λ bs. AreByCell count v.problem bs w.heads in
        let heads : v.heads ≡ w.heads = by_cell_one count v.problem v.bounds v.heads w.heads h.heads (subst R (sym bounds) (subst Q (sym problems) k.heads)) in
        λ i. record { problem = problems i; bounds = bounds i; heads = heads i };
    refusal = λ n m h k.
        let P : List Entries → Type 0 = λ p. HasNoPair limits p m in
        (decided h.problem h.is).refusal n m h.refused (subst P (same k.problem h.problem k.is h.is) k.refused);
    apart = λ v n h k.
        let P : List Entries → Type 0 = λ p. HasNoPair limits p n in
        (decided v.problem h.problem).apart v.bounds n (pair_in v h) (subst P (same k.problem v.problem k.is h.problem) k.refused);
  }

-- the problem of two plans' differences meets the conditions on problems
pub their_problem_fits : ProblemFits → (k : PlanTask) → IsPlanTask k → (at : TimeStep) → Contains (times k.base.first) at → (old : PlanHeads) → ArePlanHeads k old →
    (base planned : List Entries) (xs ys : List Bound) (p : List Entries) → IsProblemFor k.base k.digits at old.base base →
    IsProblemFor k.planned k.digits at old.planned planned → IsDifferenceProblem base planned xs ys old.differences p → IsProblem p
their_problem_fits problem_fits k task at time old fit base planned xs ys p of_base of_planned is =
    is_problem base planned xs ys old.differences p
    (problem_fits k.base k.digits at old.base base (record { decks = task.base; time = time; heads = fit.base }) of_base)
    (problem_fits k.planned k.digits at old.planned planned (record { decks = task.planned; time = times_planned k task at time; heads = fit.planned }) of_planned)
    fit.differences.range
    (problem_count k.planned k.digits at old.planned planned task.planned of_planned
    ∙ ap (λ (e : Decks). length (variable_cells e.first at.period)) task.with_wells
    ∙ ap (λ (cs : List ℕ). length cs) (cells_same k.base.first k.plan task.long at.period at.step (cell_count k.base.first.grid))
    ∙ sym (problem_count k.base k.digits at old.base base task.base of_base)) is

-- what is known of the steps of decks
pub record StepLaws : Type 0 where
  pub one : StepIsOne
  pub excludes : StepExcludesRefusal
  pub refusal : RefusalIsOne

deck_decided : StepLaws → (limits : Limits) (d : Decks) (s : ℕ) (at : TimeStep) (old : List Bound) (kind : PairKind) → IsBefore d at old → kind ≡ settled →
    IsDecided (IsStepBy limits d s at old kind) (HasNoHeads limits d s at old)
deck_decided laws limits d s at old kind before is_settled =
    let P : Solved → PairKind → Type 0 = λ x k. IsStepBy limits d s at old k x in
    record {
      value = λ x y h k. laws.one limits d s at old x y before (subst (P x) is_settled h) (subst (P y) is_settled k);
      refusal = λ n m. laws.refusal limits d s at old n m before;
      apart = λ x n. laws.excludes limits d s at old kind x n before (inr is_settled);
    }

module _ (pairs : PairLaws) (steps : StepLaws) (problem_fits : ProblemFits) (k : PlanTask) (task : IsPlanTask k) (plain : k.quick ≡ false) (at : TimeStep)
    (time : Contains (times k.base.first) at) (old : PlanHeads) (fit : ArePlanHeads k old) where
  are_settled : plan_pairs k ≡ settled
  are_settled = ap (λ q. if q then certified else settled) plain

  base_before : IsBefore k.base at old.base
  base_before = record { decks = task.base; time = time; heads = fit.base }

  planned_before : IsBefore k.planned at old.planned
  planned_before = record { decks = task.planned; time = times_planned k task at time; heads = fit.planned }

  base : IsDecided (IsBaseStep k at old) (HasNoHeads k.limits k.base k.digits at old.base)
  base = deck_decided steps k.limits k.base k.digits at old.base (plan_pairs k) base_before are_settled

  planned : IsDecided (IsPlannedDeckStep k at old) (HasNoHeads k.limits k.planned k.digits at old.planned)
  planned = deck_decided steps k.limits k.planned k.digits at old.planned (plan_pairs k) planned_before are_settled

  abbrev Differ : Solved → Solved → Solved → Type 0
  Differ x y v = AreDifferencesBy k.limits x y old.differences (cell_count k.base.first.grid) (plan_pairs k) v

  abbrev AreRefusedAt : Solved → Solved → NoBound → Type 0
  AreRefusedAt x y n = FailBy k.limits x y old.differences 0 (fault.NoBound n)

  differences : (x y : Solved) → IsBaseStep k at old x → IsPlannedDeckStep k at old y → IsDecided (Differ x y) (AreRefusedAt x y)
  differences x y of_base of_planned =
      differences_decided pairs k.limits x y old.differences (cell_count k.base.first.grid) (plan_pairs k) are_settled (λ p is.
      their_problem_fits problem_fits k task at time old fit x.problem y.problem x.bounds y.bounds p of_base.posed.problem of_planned.posed.problem is)

  -- what holds of one pair of steps holds of any other
  moved : (P : Solved → Solved → Type 0) (x y z w : Solved) → IsBaseStep k at old x → IsPlannedDeckStep k at old y → IsBaseStep k at old z → IsPlannedDeckStep k at old w →
      P x y → P z w
  moved P x y z w of_x of_y of_z of_w h = subst (λ v. P v w) (base.value x z of_x of_z) (subst (P x) (planned.value y w of_y of_w) h)

  pub step_one : (v w : PlanSolved) → IsPlanStep k at old v → IsPlanStep k at old w → v ≡ w
  step_one v w h g =
      let bases = base.value v.base w.base h.base g.base in
      let plans = planned.value v.planned w.planned h.planned g.planned in
      let other = moved (λ x y. Differ x y w.differences) w.base w.planned v.base v.planned g.base g.planned h.base h.planned g.differences in
      let apart = (differences v.base v.planned h.base h.planned).value v.differences w.differences h.differences other in
      λ i. record { base = bases i; planned = plans i; differences = apart i }

  pub step_apart : (v : PlanSolved) (part : PlanPart) (n : NoBound) → IsPlanStep k at old v → HasNoBoundAt k at old part n → ⊥
  step_apart v Base n h none = base.apart v.base n h.base none
  step_apart v Planned n h (x, of_x, none) = planned.apart v.planned n h.planned none
  step_apart v Differences n h (x, y, of_x, of_y, none) =
      (differences v.base v.planned h.base h.planned).apart v.differences n h.differences
      (moved (λ z w. AreRefusedAt z w n) x y v.base v.planned of_x of_y h.base h.planned none)

  pub refusal_one : (p q : PlanPart) (n m : NoBound) → HasNoBoundAt k at old p n → HasNoBoundAt k at old q m → (p ≡ q) × (n ≡ m)
  refusal_one Base Base n m a b = (refl, base.refusal n m a b)
  refusal_one Base Planned n m a (x, of_x, b) = absurd (base.apart x n of_x a)
  refusal_one Base Differences n m a (x, y, of_x, of_y, b) = absurd (base.apart x n of_x a)
  refusal_one Planned Base n m (x, of_x, a) b = absurd (base.apart x m of_x b)
  refusal_one Planned Planned n m (x, of_x, a) (y, of_y, b) = (refl, planned.refusal n m a b)
  refusal_one Planned Differences n m (x, of_x, a) (y, z, of_y, of_z, b) = absurd (planned.apart z n of_z a)
  refusal_one Differences Base n m (x, y, of_x, of_y, a) b = absurd (base.apart x m of_x b)
  refusal_one Differences Planned n m (x, y, of_x, of_y, a) (z, of_z, b) = absurd (planned.apart y m of_y b)
  refusal_one Differences Differences n m (x, y, of_x, of_y, a) (z, w, of_z, of_w, b) = (
    refl,
    (differences x y of_x of_y).refusal n m a (moved (λ u w. AreRefusedAt u w m) z w x y of_z of_w of_x of_y b),
  )
