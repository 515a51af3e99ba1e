-- Where storage holds the heads of a step.
use Rattle.std.specs.Prelude.{◌≢◌, ℕ, List, Bool, Option}
use Rattle.step_problem.specs.{declared.heads.Bound.Bound, declared.place.NoBound.NoBound, declared.refusal.StepRefusal.TheVariants.NoBarrierLow}
use Rattle.step_problem.specs.{declared.refusal.StepRefusal.TheVariants.NoBarrierHigh, number_of, Entries.Entries}
use Rattle.model_types.specs.{declared.limits.Limits.Limits, declared.model.FlowModel.FlowModel, declared.time_steps.TimeStep.TimeStep}
use Rattle.problem_builder.specs.{IsProblemOf}
use Rattle.barrier_vector.specs.{HasStorage}
use Rattle.listing_run.specs.{HasNoBound, one_task}

-- Where each variable cell has a storage that certainly conducts, a refusal of the step is neither NoBarrierLow nor NoBarrierHigh.
abbrev pub StorageHolds : Type 0
StorageHolds =
    (limits : Limits) (m : FlowModel) (s : ℕ) (zones : Option (List ℕ)) (rounds : ℕ) (quick : Bool) (at : TimeStep) (old : List Bound) (n : NoBound) →
    ((p : List Entries) → IsProblemOf m s at old p → HasStorage p) →
    HasNoBound (one_task limits m s zones rounds quick) at old n → (n.code ≢ number_of NoBarrierLow) × (n.code ≢ number_of NoBarrierHigh)
