-- What flows more under a plan in a solved step: from each term, and between zones.
use Rattle.std.specs.Prelude.{◌≡◌, ℕ, neg_ℤ, List, map, Option, Result, Ok, Err}
use Rattle.cell_relax.specs.{AreWords}
use Rattle.step_problem.specs.{declared.heads.Bound.Bound, declared.place.NoBound.NoBound, declared.place.ZoneFlow.ZoneFlow}
use Rattle.step_problem.specs.{declared.refusal.BoundFault.BoundFault, lower_at, upper_at}
use Rattle.step_problem.specs.declared.refusal.BoundFault.TheVariants as fault
use Rattle.budget_bounds.specs.declared.pair.TermPair.{TermPair}
use Rattle.budget_bounds.specs.{◌>>=◌}
use Rattle.model_types.specs.declared.model.FlowModel.{FlowModel}
use Rattle.problem_builder.specs.{AreGridHeads, IsActive, IsCellNamed}
use Rattle.listing_run.specs.{flows_or_large}
use Rattle.plan_chain.specs.declared.step.PlanSolved.{PlanSolved}
use Rattle.plan_sources.specs.declared.flows.PlanFlows.{PlanFlows}
use Rattle.plan_gains.specs.{HasBranchesOf, sources_or_large}

-- how much higher a head is under the plan: its difference turned round
abbrev pub rise : Bound → Bound
rise b = record { low = neg_ℤ b.high; high = neg_ℤ b.low }

module _ (v : PlanSolved) where
  -- the sources of a step, or the first term that is too large
  abbrev pub sources_of : Result (List TermPair) NoBound
  sources_of = sources_or_large v.base.problem v.differences.problem (lower_at v.differences.bounds) (upper_at v.differences.bounds)

  -- what flows more between zones: the flows in the problem of the differences, where each head rises so
  abbrev pub zones_of : Option (List ℕ) → Result (List ZoneFlow) NoBound
  zones_of zones = flows_or_large v.differences.problem (map rise v.differences.heads) zones

  -- both, or the first refusal
  unfoldable pub flows_of : Option (List ℕ) → Result PlanFlows NoBound
  flows_of zones = do
    terms ← sources_of
    flows ← zones_of zones
    Ok (record { sources = record { terms = terms }; zones = flows })

  -- why there are none; lack of memory is possible at any time
  abbrev pub NoPlanFlows : Option (List ℕ) → BoundFault → Type 0
  NoPlanFlows zones (fault.NoBound n) = flows_of zones ≡ Err n
  NoPlanFlows zones fault.Memory = Unit {0}

-- The conditions on a step whose flows are asked: differences in range, a branch for each of the base plan's, and names of cells of the grid.
pub record HasFlows (m : FlowModel) (v : PlanSolved) : Type 0 where
  pub words : AreWords v.differences.problem v.differences.bounds
  pub branches : HasBranchesOf v.base.problem v.differences.problem
  pub heads : AreGridHeads m v.differences.heads
  pub named : (c : ℕ) → IsCellNamed v.differences.problem c → IsActive m c
