-- What listed heads that hold say of a step.
use Rattle.std.specs.Prelude.{ℕ, List, Contains}
use Rattle.decimal_input.specs.{Fraction}
use Rattle.step_problem.specs.{declared.heads.Bound.Bound, Entries.Entries, lower_at, upper_at}
use Rattle.model_types.specs.{declared.model.FlowModel.FlowModel, declared.time_steps.TimeStep.TimeStep, IsModel, times}
use Rattle.problem_builder.specs.{AreGridHeads, HeadsEnclose}
use Rattle.water_table.specs.{declared.convertible_layers.ConvertibleLayers.ConvertibleLayers, HasSignsAt, listed_heads, with_yield}
use Rattle.water_enclosure.specs.{flow_unit, pair_of}
use Rattle.gentle_steps.specs.Steps.{HeadsHold}

-- The step has the signs from the exact heads `low` and `high` before it, and the listed heads enclose the exact ones of both sides after it.
pub record MovesOn (m : FlowModel) (w : ConvertibleLayers) (s : ℕ) (at : TimeStep) (listed : List Bound) (low high : ℕ → Fraction) : Type 0 where
  pub signs : HasSignsAt (flow_unit s) m w at low high (pair_of listed)
  pub low_within : HeadsEnclose m listed (listed_heads m at (lower_at listed))
  pub high_within : HeadsEnclose m listed (listed_heads m at (upper_at listed))

-- Listed heads that hold have the signs, from all exact heads within the listed ones before the step.
abbrev pub HeldStepsHaveSigns : Type 0
HeldStepsHaveSigns = (m : FlowModel) (w : ConvertibleLayers) (s : ℕ) (at : TimeStep) (old listed : List Bound) (p q : List Entries)
    (low high : ℕ → Fraction) → IsModel m → IsModel (with_yield m w) → Contains (times m) at → AreGridHeads m listed → HeadsEnclose m old low →
    HeadsEnclose m old high → HeadsHold m w s at old listed p q → MovesOn m w s at listed low high
