-- The cells of a step's problem: for each source of a variable cell one entry, in the order of the sources. The
-- model's definitions say what a source is; these say by which whole numbers it is known (`whole_river` and so on).
use Rattle.std.specs.Prelude.{◌≡◌, ℕ, ◌≤◌, ◌-ℤ◌, ◌++◌, List, Option, Some, map, true}
use Rattle.std.specs.{List.filter_map, Option.option_to_list}
use Rattle.step_problem.specs.{declared.heads.Bound.Bound, declared.entry.FixedKind.FixedKind, declared.entry.FixedKind.TheVariants.Constant}
use Rattle.step_problem.specs.{declared.entry.FixedKind.TheVariants.General, declared.entry.FixedKind.TheVariants.Storage, declared.entry.FlowKind.FlowKind}
use Rattle.step_problem.specs.{declared.entry.FlowKind.TheVariants.Wells, declared.entry.FlowKind.TheVariants.Recharge, declared.entry.Flow.Flow}
use Rattle.step_problem.specs.{declared.entry.Link.Link, declared.entry.Fixed.Fixed, declared.entry.River.River, declared.entry.Drain.Drain}
use Rattle.step_problem.specs.{declared.entry.Evap.Evap, Entries.Entries, lower_at, upper_at}
use Rattle.model_types.specs.{declared.face.Axis.Axis, declared.face.Face.Face, declared.model.FlowModel.FlowModel, declared.time_steps.TimeStep.TimeStep}
use Rattle.model_types.specs.{index_of, EvapSource, FixedSource, FlowSource, RiverSource, DrainSource, constant_faces, variable_faces, flow_sources, as_general}
use Rattle.model_types.specs.{has_after, local_entries, storage_at, river_sources, drain_sources, evap_sources, ToConstant, ToGeneral, FromStorage, Pumped}
use Rattle.model_types.specs.{Received, variable_below, variable_cells}
use Rattle.conductance_bounds.specs.{declared.pair.Pair.Pair, declared.pair.FlowPair.FlowPair, evap_term, capped_pair}
use Rattle.problem_builder.specs.GridHeads.{cond_pair, well_pair, head_bound, recharge_pair, constant_bound, storage_pair}
use Rattle.problem_builder.specs.Widths.{IsBranch, face_pair}

-- An entry from its bounds.
abbrev pub flow_of_pair : FlowKind → FlowPair → Flow
flow_of_pair kind pair = record { kind = kind; lo = pair.lo; hi = pair.hi }

abbrev pub known_head : FixedKind → ℕ → Pair → Bound → Fixed
known_head kind source pair head = record { kind = kind; source = source; lo = pair.lo; hi = pair.hi; head_lo = head.low; head_hi = head.high }

-- a river and a drain
abbrev pub whole_river : ℕ → RiverSource → River
whole_river s x =
    let pair = cond_pair s x.cond in
    let stage = head_bound x.stage in
    let bottom = head_bound x.bottom in
    record { lo = pair.lo; hi = pair.hi; stage_lo = stage.low; stage_hi = stage.high; bottom_lo = bottom.low; bottom_hi = bottom.high }

abbrev pub whole_drain : ℕ → DrainSource → Drain
whole_drain s x =
    let pair = cond_pair s x.cond in
    let elevation = head_bound x.elevation in
    record { lo = pair.lo; hi = pair.hi; elev_lo = elevation.low; elev_hi = elevation.high }

-- for a model, with s digits of conductances
module _ (m : FlowModel) (s : ℕ) where
  -- a well's flow into cell c, or recharge over its area
  abbrev pub whole_flow : ℕ → FlowSource → Flow
  whole_flow c (Pumped q) = flow_of_pair Wells (well_pair s q)
  whole_flow c (Received rate) = flow_of_pair Recharge (recharge_pair m s c rate)

  -- evapotranspiration from cell c: the bounds of the extinction elevation are the differences of the bounds of the surface and of the depth
  abbrev pub whole_evap : ℕ → EvapSource → Evap
  whole_evap c x =
      let pair = capped_pair (evap_term m x.rate x.depth c) s in
      let surface = head_bound x.surface in
      let depth = head_bound x.depth in
      record {
        lo = pair.lo;
        hi = pair.hi;
        ext_lo = surface.low -ℤ depth.high;
        ext_hi = surface.high -ℤ depth.low;
        surf_lo = surface.low;
        surf_hi = surface.high;
      }

-- What a step takes its branches from: the bounds of the conductance from a cell to the next one along an axis, and the source of stored water, or None
-- where storage is left out.
pub record Branches : Type 0 where
  pub pair : Axis → ℕ → Pair
  pub stored : Option FixedSource

-- The bounds between two active cells are in order, and stored water counts in a transient period alone.
pub record AreBranches (m : FlowModel) (at : TimeStep) (b : Branches) : Type 0 where
  pub ordered : (axis : Axis) (a : ℕ) → has_after m.grid axis a ≡ true → IsBranch m axis a → (b.pair axis a).lo ≤ (b.pair axis a).hi
  pub stored : (x : FixedSource) → b.stored ≡ Some x → storage_at m at.period ≡ Some x

-- at a time, where `old` are the heads before it
module _ (m : FlowModel) (s : ℕ) (at : TimeStep) (old : List Bound) (b : Branches) where
  -- a branch to a variable neighbour, over the conductance of the face between the two cells
  abbrev pub link_over : Face → Link
  link_over x = let pair = b.pair x.axis x.first in record { cell = index_of m at.period x.end; lo = pair.lo; hi = pair.hi }

  abbrev pub constant_over : Face → Fixed
  constant_over x = known_head Constant x.end (b.pair x.axis x.first) (constant_bound m at x.end)

  -- a branch of cell c to a known head: a constant-head neighbour's at this time, a general head, or the cell's old head over its storage
  abbrev pub fixed_over : ℕ → FixedSource → Fixed
  fixed_over c (ToConstant x) = constant_over x
  fixed_over c (ToGeneral head k) = known_head General c (cond_pair s k) (head_bound head)
  fixed_over c FromStorage = known_head Storage c (storage_pair m s at c) (record { low = lower_at old c; high = upper_at old c })

  -- the known heads of cell c: stored water, constant-head neighbours, general heads
  abbrev pub sources_over : ℕ → List FixedSource
  sources_over c = option_to_list b.stored ++ map ToConstant (constant_faces m at.period c) ++ filter_map as_general (local_entries m at.period c)

  -- the variable cell c
  abbrev pub cell_over : ℕ → Entries
  cell_over c = record {
    id = c;
    flows = map (whole_flow m s c) (flow_sources m at.period c);
    links = map link_over (variable_faces m at.period c);
    fixed = map (fixed_over c) (sources_over c);
    rivers = map (whole_river s) (river_sources m at.period c);
    drains = map (whole_drain s) (drain_sources m at.period c);
    evaps = map (whole_evap m s c) (evap_sources m at.period c);
  }

  -- the variable cells below cell n, and all of them, by ascending number
  abbrev pub below_over : ℕ → List Entries
  below_over n = map cell_over (variable_below m at.period n)

  abbrev pub step_over : List Entries
  step_over = map cell_over (variable_cells m at.period)

-- Of a confined model: the conductances are those of its faces, and a transient period has storage.
abbrev pub model_branches : FlowModel → ℕ → TimeStep → Branches
model_branches m s at = record { pair = face_pair m s; stored = storage_at m at.period }

module _ (m : FlowModel) (s : ℕ) (at : TimeStep) (old : List Bound) where
  abbrev pub whole_link : Face → Link
  whole_link = link_over m s at old (model_branches m s at)

  abbrev pub whole_constant : Face → Fixed
  whole_constant = constant_over m s at old (model_branches m s at)

  abbrev pub whole_fixed : ℕ → FixedSource → Fixed
  whole_fixed = fixed_over m s at old (model_branches m s at)

  abbrev pub whole_cell : ℕ → Entries
  whole_cell = cell_over m s at old (model_branches m s at)

  abbrev pub whole_below : ℕ → List Entries
  whole_below = below_over m s at old (model_branches m s at)

  abbrev pub whole_step : List Entries
  whole_step = step_over m s at old (model_branches m s at)
