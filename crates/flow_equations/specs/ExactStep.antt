-- The exact finite-difference equations of one time step of a model (TM 6-A16, chapters 2, 5 and 6): for each
-- variable cell of the period all that flows into it, each with its exact conductance, head or flow.
use Rattle.std.specs.Prelude.{ℕ, List, map}
use Rattle.decimal_input.specs.{number, size, Fraction}
use Rattle.step_problem.specs.declared.entry.FixedKind.TheVariants.{Constant, General, Storage}
use Rattle.step_problem.specs.declared.entry.FlowKind.TheVariants.{Wells, Recharge}
use Rattle.cell_balance.specs.{ExactFlow, ExactLink, ExactFixed, ExactRiver, ExactDrain, ExactEvap, ExactCell}
use Rattle.model_types.specs.{declared.model.FlowModel.FlowModel, declared.face.Face.Face, conductance, period_at, storage, variable_cells, index_of}
use Rattle.model_types.specs.{constant_head, EvapSource, recharge_flow, evap_conductance, extinction, FixedSource, FlowSource, RiverSource, DrainSource}
use Rattle.model_types.specs.{variable_faces, flow_sources, fixed_sources, river_sources, drain_sources, evap_sources, ToConstant, ToGeneral, FromStorage}
use Rattle.model_types.specs.{Pumped, Received}

-- a river and a drain, with the numbers of their entries (TM 6-A16, chapter 6, RIV and DRN)
abbrev pub exact_river : RiverSource → ExactRiver
exact_river x = record { conductance = size x.cond; stage = number x.stage; bottom = number x.bottom }

abbrev pub exact_drain : DrainSource → ExactDrain
exact_drain x = record { conductance = size x.cond; elevation = number x.elevation }

-- Step n of period p, where cell c had the head `old c` at the end of the step before.
module _ (m : FlowModel) (p n : ℕ) (old : ℕ → Fraction) where
  -- a branch to a variable neighbour, over the conductance of the face between the two cells (TM 6-A16, chapter 5)
  abbrev pub exact_link : Face → ExactLink
  exact_link x = record { cell = index_of m p x.end; conductance = conductance m x.axis x.first }

  -- a branch of cell c to a known head: a constant-head neighbour's at this step, a general head, or the cell's old
  -- head over its storage (TM 6-A16, chapters 2 and 6)
  abbrev pub exact_fixed : ℕ → FixedSource → ExactFixed
  exact_fixed c (ToConstant x) = record { kind = Constant; source = x.end; conductance = conductance m x.axis x.first; head = constant_head m p n x.end }
  exact_fixed c (ToGeneral head cond) = record { kind = General; source = c; conductance = size cond; head = number head }
  exact_fixed c FromStorage = record { kind = Storage; source = c; conductance = storage m (period_at m p) n c; head = old c }

  -- a well's flow into cell c, or recharge over its area (TM 6-A16, chapter 6, WEL and RCH)
  abbrev pub exact_flow : ℕ → FlowSource → ExactFlow
  exact_flow c (Pumped q) = record { kind = Wells; flow = number q }
  exact_flow c (Received rate) = record { kind = Recharge; flow = recharge_flow m c rate }

  -- evapotranspiration from cell c (TM 6-A16, chapter 6, EVT)
  abbrev pub exact_evap : ℕ → EvapSource → ExactEvap
  exact_evap c x = record { conductance = evap_conductance m c x; surface = number x.surface; extinction = extinction x }

  -- all that flows into cell c
  abbrev pub exact_cell : ℕ → ExactCell
  exact_cell c = record {
    id = c;
    flows = map (exact_flow c) (flow_sources m p c);
    links = map exact_link (variable_faces m p c);
    fixed = map (exact_fixed c) (fixed_sources m p c);
    rivers = map exact_river (river_sources m p c);
    drains = map exact_drain (drain_sources m p c);
    evaps = map (exact_evap c) (evap_sources m p c);
  }

  -- the cells that are variable in the period, by ascending cell number
  abbrev pub exact_step : List ExactCell
  exact_step = map exact_cell (variable_cells m p)
