-- A step of two plans, by the clauses of the calls that gave its parts.
use Rattle.plan_chain.proofs.Common.{Contains, times, List, length, ℕ, ap, subst, sym, ◌∙◌, ◌≡◌, Decks, cell_count, variable_cells, TimeStep, Solved, PlanHeads, PlanTask, IsPlanTask, AreDifferencesBy}
use Rattle.plan_chain.proofs.Common.{FailBy, PairKind, Bound, plan_pairs, IsStepBy, StepFault, times_same, cells_same, FailsInPart, IsBaseStep, IsPlannedDeckStep}
use Rattle.deck_problems.proofs.Counted.{problem_count}
use Rattle.plan_chain.specs.declared.step.PlanPart.TheVariants.{Differences}
use Rattle.step_chain.specs.declared.solved.StepFault.TheVariants as fault

-- a time of the decks is one of the decks with the plan's wells
pub times_planned : (k : PlanTask) → IsPlanTask k → (at : TimeStep) → Contains (times k.base.first) at → Contains (times k.planned.first) at
times_planned k task at h =
    subst (λ (ts : List TimeStep). Contains ts at) (sym (ap (λ (e : Decks). times e.first) task.with_wells ∙ times_same k.base.first k.plan task.long)) h

module _ (k : PlanTask) (at : TimeStep) (old : PlanHeads) where
  pub base_is : (kind : PairKind) (lent : List Bound) (x : Solved) → kind ≡ plan_pairs k → lent ≡ old.base → IsStepBy k.limits k.base k.digits at lent kind x → IsBaseStep k at old x
  base_is kind lent x kinds same h =
      let P : PairKind → Type 0 = λ pairs. IsStepBy k.limits k.base k.digits at old.base pairs x in
      subst P kinds (let Q : List Bound → Type 0 = λ xs. IsStepBy k.limits k.base k.digits at xs kind x in subst Q same h)

  pub planned_is : (kind : PairKind) (lent : List Bound) (x : Solved) → kind ≡ plan_pairs k → lent ≡ old.planned → IsStepBy k.limits k.planned k.digits at lent kind x →
      IsPlannedDeckStep k at old x
  planned_is kind lent x kinds same h =
      let P : PairKind → Type 0 = λ pairs. IsStepBy k.limits k.planned k.digits at old.planned pairs x in
      subst P kinds (let Q : List Bound → Type 0 = λ xs. IsStepBy k.limits k.planned k.digits at xs kind x in subst Q same h)

  pub differences_are : (kind : PairKind) (lent : List Bound) (count : ℕ) (x y v : Solved) → kind ≡ plan_pairs k → lent ≡ old.differences → count ≡ cell_count k.base.first.grid →
      AreDifferencesBy k.limits x y lent count kind v → AreDifferencesBy k.limits x y old.differences (cell_count k.base.first.grid) (plan_pairs k) v
  differences_are kind lent count x y v kinds same many h =
      let P : PairKind → Type 0 = λ pairs. AreDifferencesBy k.limits x y old.differences (cell_count k.base.first.grid) pairs v in
      let Q : List Bound → Type 0 = λ xs. AreDifferencesBy k.limits x y xs (cell_count k.base.first.grid) kind v in
      let R : ℕ → Type 0 = λ n. AreDifferencesBy k.limits x y lent n kind v in
      subst P kinds (subst Q same (subst R many h))

  pub differences_fail : (x y : Solved) → IsBaseStep k at old x → IsPlannedDeckStep k at old y → (rounds : ℕ) (lent : List Bound) → rounds ≡ k.rounds → lent ≡ old.differences → (f : StepFault) →
      FailBy k.limits x y lent rounds f → FailsInPart k at old Differences f
  differences_fail x y base planned rounds lent these same f h = cases f (let P : List Bound → Type 0 = λ xs. FailBy k.limits x y xs k.rounds f in
      subst P same (let Q : ℕ → Type 0 = λ n. FailBy k.limits x y lent n f in subst Q these h))
    where
      cases : (f : StepFault) → FailBy k.limits x y old.differences k.rounds f → FailsInPart k at old Differences f
      cases (fault.NoBound n) h = (x, y, base, planned, h)
      cases (fault.Unfinished o) h = (x, y, base, planned, h)
      cases fault.Memory h = tt

  -- both plans' problems have the same cells
  pub same_count : IsPlanTask k → (x y : Solved) → IsBaseStep k at old x → IsPlannedDeckStep k at old y → length y.problem ≡ length x.problem
  same_count task x y base planned =
      problem_count k.planned k.digits at old.planned y.problem task.planned planned.posed.problem
      ∙ ap (λ (e : Decks). length (variable_cells e.first at.period)) task.with_wells
      ∙ ap (λ (xs : List ℕ). length xs) (cells_same k.base.first k.plan task.long at.period at.step (cell_count k.base.first.grid))
      ∙ sym (problem_count k.base k.digits at old.base x.problem task.base base.posed.problem)
