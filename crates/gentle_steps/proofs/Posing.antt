-- Refusals of the problems of both sides.
use Rattle.gentle_steps.proofs.Common.{ℕ, List, FlowModel, TimeStep, ConvertibleLayers, Bound, Side, High, Low, Entries, IsFaultOver, branches_at, FailsBy, HasNoSideProblem, IsGentlyListed}
use Rattle.gentle_steps.proofs.Common.{IsSideProblem, IsUnposed, no_high_problem, no_low_problem, of_bound, side_bounds}
use Rattle.step_problem.specs.declared.refusal.BoundFault.{BoundFault}
use Rattle.gentle_steps.specs.declared.fault.GentleFault.{GentleFault}
use Rattle.step_problem.specs.declared.refusal.BoundFault.TheVariants as bound
use Rattle.gentle_steps.specs.declared.fault.GentleFault.TheVariants as fault

module _ (m : FlowModel) (w : ConvertibleLayers) (s : ℕ) (at : TimeStep) (listed : List Bound) where
  pub no_problem : (side : Side) (e : BoundFault) →
      IsFaultOver m s at (side_bounds m at listed side) (branches_at m w (side_bounds m at listed side) s) e → HasNoSideProblem m w s at listed side e
  no_problem side (bound.NoBound n) h = h
  no_problem side bound.Memory h = tt

  pub unposed_low : (e : BoundFault) → HasNoSideProblem m w s at listed Low e → IsUnposed m w s at listed (of_bound e)
  unposed_low (bound.NoBound n) h = no_low_problem h
  unposed_low bound.Memory h = tt

  pub unposed_high : (p : List Entries) → IsSideProblem m w s at listed Low p → (e : BoundFault) → HasNoSideProblem m w s at listed High e → IsUnposed m w s at listed (of_bound e)
  unposed_high p low (bound.NoBound n) h = no_high_problem p low h
  unposed_high p low bound.Memory h = tt

  pub fails_by : (old : List Bound) → IsGentlyListed m w at listed → (e : GentleFault) → IsUnposed m w s at listed e → FailsBy m w s at old listed e
  fails_by old g (fault.Steep c) h = absurd h
  fails_by old g (fault.Fails place) h = absurd h
  fails_by old g (fault.Refused n) h = (g, h)
  fails_by old g fault.Memory h = tt
