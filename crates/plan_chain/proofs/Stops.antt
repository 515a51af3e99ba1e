-- Why a walk stops, by the fault of its step.
use Rattle.plan_chain.proofs.Common.{List, ◌∷◌, refl, TimeStep, PlanHeads, PlanTask, StepFault, FailsAt, FailsInPart, StopsAt, stop_by, stop_of}
use Rattle.plan_chain.specs.{declared.step.PlanFault.PlanFault, declared.step.PlanPart.PlanPart}
use Rattle.step_chain.specs.declared.solved.StepFault.TheVariants as fault

module _ (k : PlanTask) (at : TimeStep) (old : PlanHeads) (rest : List TimeStep) where
  by_part : (part : PlanPart) (f : StepFault) → FailsInPart k at old part f → StopsAt k old (at ∷ rest) (stop_by at part f)
  by_part part (fault.NoBound n) h = (refl, h)
  by_part part (fault.Unfinished o) h = (refl, h)
  by_part part fault.Memory h = tt

  pub step_stops : (f : PlanFault) → FailsAt k at old f → StopsAt k old (at ∷ rest) (stop_of at f)
  step_stops f h = by_part f.part f.fault h
