-- The flows between zones at a step of a model with convertible layers, for all heads between the listed ones, in units of 10^-(s+9).
use Rattle.std.specs.Prelude.{◌≡◌, ℕ, List, [], Option, Some, None, Result, Ok, Err, IfSome, Contains}
use Rattle.decimal_input.specs.{Fraction}
use Rattle.step_problem.specs.{declared.heads.Bound.Bound, declared.place.NoBound.NoBound, declared.place.ZoneFlow.ZoneFlow}
use Rattle.step_problem.specs.{declared.refusal.BoundFault.BoundFault, Entries.Entries}
use Rattle.step_problem.specs.declared.refusal.BoundFault.TheVariants as fault
use Rattle.budget_bounds.specs.{◌>>=◌}
use Rattle.zone_flows.specs.{EncloseExact}
use Rattle.model_types.specs.{declared.model.FlowModel.FlowModel, declared.time_steps.TimeStep.TimeStep, IsModel, times}
use Rattle.problem_builder.specs.{AreGridHeads, HeadsEnclose, problem_over}
use Rattle.listing_run.specs.{flows_or_large}
use Rattle.water_table.specs.{declared.convertible_layers.ConvertibleLayers.ConvertibleLayers, convertible_step}
use Rattle.water_conductances.specs.{AreOrdered}
use Rattle.gentle_problem.specs.{branches_at}

module _ (m : FlowModel) (w : ConvertibleLayers) (s : ℕ) (at : TimeStep) (listed : List Bound) where
  -- the problem with the conductances at all heads between the listed ones, without storage; or its first refusal
  abbrev pub zone_problem : Result (List Entries) NoBound
  zone_problem = problem_over m s at listed (branches_at m w listed s)

  -- The flows between the zones of a zone file, at all heads between the listed ones; or the first refusal, of this problem or of a pair of zones. None
  -- without a zone file.
  abbrev pub flows_at : Option (List ℕ) → Result (List ZoneFlow) NoBound
  flows_at None = Ok []
  flows_at (Some zones) = zone_problem >>= (λ p. flows_or_large p listed (Some zones))

  -- lack of memory is possible at any time
  abbrev pub HasNoFlows : Option (List ℕ) → BoundFault → Type 0
  HasNoFlows zones (fault.NoBound n) = flows_at zones ≡ Err n
  HasNoFlows zones fault.Memory = Unit {0}

-- Each flow between two zones of a zone file, if there is one, at the heads h lies between its two bounds.
abbrev pub ZonesHold : ℕ → FlowModel → ConvertibleLayers → TimeStep → (ℕ → Fraction) → Option (List ℕ) → List ZoneFlow → Type 0
ZonesHold s m w at h zones flows = IfSome zones (λ zs. EncloseExact s (convertible_step m w at h) zs h flows)

-- So it is at all heads that the listed ones enclose.
abbrev pub FlowsHold : Type 0
FlowsHold = (m : FlowModel) (w : ConvertibleLayers) (s : ℕ) (at : TimeStep) (listed : List Bound) (zones : Option (List ℕ)) (flows : List ZoneFlow)
    (h : ℕ → Fraction) → IsModel m → Contains (times m) at → AreGridHeads m listed → AreOrdered m listed → flows_at m w s at listed zones ≡ Ok flows →
    HeadsEnclose m listed h → ZonesHold s m w at h zones flows
