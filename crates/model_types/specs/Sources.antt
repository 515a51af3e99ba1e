-- What flows into a variable cell, in the terms of the packages and with the numbers of the input (TM 6-A16, chapters
-- 5 and 6). The exact equations and their rounded bounds are both made from these lists, entry by entry.
use Rattle.std.specs.Prelude.{ℕ, cond, ◌==◌, List, ◌++◌, filter, map, Option, Some, None}
use Rattle.std.specs.{Option.option_to_list, List.filter_map}
use Rattle.decimal_input.specs.declared.dec.Dec.{Dec}
use Rattle.model_types.specs.{declared.face.Face.Face, declared.model.FlowModel.FlowModel, declared.entry.Entry.Entry, declared.entry.Entry.TheVariants.Well}
use Rattle.model_types.specs.{declared.entry.Entry.TheVariants.River, declared.entry.Entry.TheVariants.Drain, declared.entry.Entry.TheVariants.General}
use Rattle.model_types.specs.{Faces.faces, Faces.through, Times.period_at, Times.entries, Heads.is_variable, Heads.is_constant, Receivers.EvapSource}
use Rattle.model_types.specs.{Receivers.recharge_at, Receivers.evap_at}

-- A branch to a known head: through a face to a constant-head neighbour, to a general head over its conductance, or
-- to the cell's own head of the step before over its storage.
pub data FixedSource : Type 0 where
  ToConstant : Face → FixedSource
  ToGeneral : Dec → Dec → FixedSource
  FromStorage : FixedSource

-- A flow that no head changes: a well's, or recharge at a rate.
pub data FlowSource : Type 0 where
  Pumped : Dec → FlowSource
  Received : Dec → FlowSource

pub record RiverSource : Type 0 where
  pub stage : Dec
  pub cond : Dec
  pub bottom : Dec

pub record DrainSource : Type 0 where
  pub elevation : Dec
  pub cond : Dec

-- the cell of an entry
abbrev pub cell_of : Entry → ℕ
cell_of (Well cell q) = cell.0
cell_of (River cell stage k bottom) = cell.0
cell_of (Drain cell elevation k) = cell.0
cell_of (General cell head k) = cell.0

-- an entry as a source of its kind
abbrev pub as_well : Entry → Option FlowSource
as_well (Well cell q) = Some (Pumped q)
as_well (River cell stage k bottom) = None
as_well (Drain cell elevation k) = None
as_well (General cell head k) = None

abbrev pub as_river : Entry → Option RiverSource
as_river (Well cell q) = None
as_river (River cell stage k bottom) = Some (record { stage = stage; cond = k; bottom = bottom })
as_river (Drain cell elevation k) = None
as_river (General cell head k) = None

abbrev pub as_drain : Entry → Option DrainSource
as_drain (Well cell q) = None
as_drain (River cell stage k bottom) = None
as_drain (Drain cell elevation k) = Some (record { elevation = elevation; cond = k })
as_drain (General cell head k) = None

abbrev pub as_general : Entry → Option FixedSource
as_general (Well cell q) = None
as_general (River cell stage k bottom) = None
as_general (Drain cell elevation k) = None
as_general (General cell head k) = Some (ToGeneral head k)

-- the entries of one cell, in the order of the lists
unfoldable pub entries_of : ℕ → List Entry → List Entry
entries_of c xs = filter (λ x. cell_of x == c) xs

module _ (m : FlowModel) (p : ℕ) where
  -- the faces to variable neighbours and to constant-head ones
  abbrev pub variable_faces : ℕ → List Face
  variable_faces c = filter_map (through (is_variable m p)) (faces m.grid c)

  abbrev pub constant_faces : ℕ → List Face
  constant_faces c = filter_map (through (is_constant m p)) (faces m.grid c)

  -- the entries of WEL, RIV, DRN and GHB in the cell
  abbrev pub local_entries : ℕ → List Entry
  local_entries c = entries_of c (entries (period_at m p))

  -- storage, in a transient period
  abbrev pub storage_at : Option FixedSource
  storage_at = cond (period_at m p).steady None (Some FromStorage)

  -- constant flows: received recharge, then wells
  abbrev pub flow_sources : ℕ → List FlowSource
  flow_sources c = map Received (option_to_list (recharge_at m p c)) ++ filter_map as_well (local_entries c)

  -- branches to known heads: storage, then constant-head neighbours, then general heads
  abbrev pub fixed_sources : ℕ → List FixedSource
  fixed_sources c = option_to_list storage_at ++ map ToConstant (constant_faces c) ++ filter_map as_general (local_entries c)

  abbrev pub river_sources : ℕ → List RiverSource
  river_sources c = filter_map as_river (local_entries c)

  abbrev pub drain_sources : ℕ → List DrainSource
  drain_sources c = filter_map as_drain (local_entries c)

  abbrev pub evap_sources : ℕ → List EvapSource
  evap_sources c = option_to_list (evap_at m p c)
