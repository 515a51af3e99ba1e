-- The problem of a step of a model with convertible layers, at heads that are known by bounds: a confined model's, with the conductances at these heads,
-- without storage.
use Rattle.std.specs.Prelude.{◌≡◌, ℕ, ◌+◌, true, List, None, Contains}
use Rattle.decimal_input.specs.{Fraction}
use Rattle.step_problem.specs.{declared.heads.Bound.Bound, Entries.Entries, IsProblem}
use Rattle.model_types.specs.{declared.model.FlowModel.FlowModel, declared.time_steps.TimeStep.TimeStep, declared.face.Axis.Axis}
use Rattle.model_types.specs.{declared.face.Axis.TheVariants.Row, declared.face.Axis.TheVariants.Column, declared.face.Axis.TheVariants.Vertical, IsModel}
use Rattle.model_types.specs.{cell_count, has_after, is_active, stride, times}
use Rattle.cell_balance.specs.{EnclosesStep}
use Rattle.conductance_bounds.specs.declared.pair.Pair.{Pair}
use Rattle.problem_builder.specs.{declared.tables.FacePairs.FacePairs, AreGridHeads, Branches, Filled, HeadsEnclose, IsProblemOver, no_pair}
use Rattle.water_table.specs.{declared.convertible_layers.ConvertibleLayers.ConvertibleLayers, convertible_step}
use Rattle.water_conductances.specs.{AreOrdered, pair_at_heads}

module _ (m : FlowModel) (w : ConvertibleLayers) (heads : List Bound) (s : ℕ) where
  -- the conductances at all heads within the bounds
  abbrev pub branches_at : Branches
  branches_at = record { pair = pair_at_heads m w heads s; stored = None }

  -- the pair from a cell to the next one along an axis, where both are active
  abbrev pub HasPairAt : Axis → ℕ → Pair → Type 0
  HasPairAt axis a x =
      has_after m.grid axis a ≡ true → is_active m a ≡ true → is_active m (a + stride m.grid axis) ≡ true → x ≡ pair_at_heads m w heads s axis a

  pub record ArePairsAt (t : FacePairs) : Type 0 where
    pub row : Filled (HasPairAt Row) no_pair (cell_count m.grid) t.row
    pub column : Filled (HasPairAt Column) no_pair (cell_count m.grid) t.column
    pub vertical : Filled (HasPairAt Vertical) no_pair (cell_count m.grid) t.vertical

-- a problem at heads meets the conditions on problems
abbrev pub ProblemsFit : Type 0
ProblemsFit = (m : FlowModel) (w : ConvertibleLayers) (s : ℕ) (at : TimeStep) (heads : List Bound) (p : List Entries) → IsModel m →
    Contains (times m) at → AreGridHeads m heads → AreOrdered m heads → IsProblemOver m s at heads (branches_at m w heads s) p → IsProblem p

-- and encloses the exact step without storage at all heads within the bounds
abbrev pub ProblemsEnclose : Type 0
ProblemsEnclose = (m : FlowModel) (w : ConvertibleLayers) (s : ℕ) (at : TimeStep) (heads : List Bound) (h : ℕ → Fraction) (p : List Entries) → IsModel m →
    Contains (times m) at → AreOrdered m heads → HeadsEnclose m heads h → IsProblemOver m s at heads (branches_at m w heads s) p →
    EnclosesStep s p (convertible_step m w at h)
