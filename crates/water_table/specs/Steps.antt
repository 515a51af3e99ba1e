-- The finite-difference equations of a step of a model with convertible layers, at heads that are fractions (TM 6-A16, chapters 2, 5 and 6). They
-- aren't linear: the conductances follow from the heads. At given heads a cell's flows are those of an `ExactCell` with the
-- conductances at these heads, and its storage.
use Rattle.std.specs.Prelude.{ℕ, ℤ, List, map, ◌++◌, slice_index_or, cond}
use Rattle.std.specs.List.{filter_map}
use Rattle.decimal_input.specs.{Fraction, Fractions.plus}
use Rattle.step_problem.specs.declared.entry.FixedKind.TheVariants.{Constant}
use Rattle.cell_balance.specs.{ExactLink, ExactFixed, ExactCell, balance, share}
use Rattle.model_types.specs.{declared.model.FlowModel.FlowModel, declared.face.Face.Face, declared.time_steps.TimeStep.TimeStep, index_of, constant_head}
use Rattle.model_types.specs.{is_constant, variable_cells, variable_faces, constant_faces, flow_sources, river_sources, drain_sources, evap_sources}
use Rattle.model_types.specs.{local_entries, as_general, start_head}
use Rattle.flow_equations.specs.{exact_flow, exact_fixed, exact_river, exact_drain, exact_evap}
use Rattle.water_table.specs.{declared.convertible_layers.ConvertibleLayers.ConvertibleLayers, Branches.conductance_at, Storage.storage_flow}

-- the number of the variable cell of an index
abbrev pub variable_cell : FlowModel → ℕ → ℕ → ℕ
variable_cell m p k = slice_index_or (variable_cells m p) k 0

-- The heads of a step: the given head in each constant-head cell, and X over d in every other cell.
abbrev pub heads_at : FlowModel → TimeStep → ℕ → (ℕ → ℤ) → ℕ → Fraction
heads_at m at d X c = cond (is_constant m at.period c) (constant_head m at.period at.step c) (share d (X c))

-- A step at the heads h, by cell number.
module _ (m : FlowModel) (w : ConvertibleLayers) (at : TimeStep) (h : ℕ → Fraction) where
  -- a branch to a variable neighbour, and one to a constant-head neighbour (TM 6-A16, chapters 2 and 5)
  abbrev pub variable_branch : Face → ExactLink
  variable_branch x = record { cell = index_of m at.period x.end; conductance = conductance_at m w h x.axis x.first }

  abbrev pub constant_branch : Face → ExactFixed
  constant_branch x = record {
    kind = Constant;
    source = x.end;
    conductance = conductance_at m w h x.axis x.first;
    head = constant_head m at.period at.step x.end;
  }

  -- general heads: they don't depend on the heads of the step
  abbrev pub general_branches : ℕ → List ExactFixed
  general_branches c = map (exact_fixed m at.period at.step (start_head m) c) (filter_map as_general (local_entries m at.period c))

  -- All that flows into cell c but for storage: what a confined model's exact cell has, with the conductances at these heads. Wells, recharge,
  -- general heads and evapotranspiration don't depend on old heads: STRT stands in their place.
  abbrev pub convertible_cell : ℕ → ExactCell
  convertible_cell c = record {
    id = c;
    flows = map (exact_flow m at.period at.step (start_head m) c) (flow_sources m at.period c);
    links = map variable_branch (variable_faces m at.period c);
    fixed = map constant_branch (constant_faces m at.period c) ++ general_branches c;
    rivers = map exact_river (river_sources m at.period c);
    drains = map exact_drain (drain_sources m at.period c);
    evaps = map (exact_evap m at.period at.step (start_head m) c) (evap_sources m at.period c);
  }

  -- the cells that are variable in the period, by ascending cell number
  abbrev pub convertible_step : List ExactCell
  convertible_step = map convertible_cell (variable_cells m at.period)

-- The balance of the variable cell c at the heads h, where the heads of the step before are `old`: the sum of all flows into it.
abbrev pub water_balance : FlowModel → ConvertibleLayers → TimeStep → (ℕ → Fraction) → (ℕ → Fraction) → ℕ → Fraction
water_balance m w at old h c =
    plus (balance (convertible_cell m w at h c) (h c) (λ k. h (variable_cell m at.period k))) (storage_flow m w at.period at.step c (old c) (h c))
