-- The bounds of a cell's entries of WEL, RIV, DRN and GHB.
use Rattle.std.specs.Prelude.{◌≡◌, ℕ, ◌<◌, All, List, [], ◌++◌, Option, Some, None, slice_index_or}
use Rattle.std.specs.{Global.Box, List.filter_map, Option.option_map}
use Rattle.step_problem.specs.{declared.entry.Flow.Flow, declared.entry.FlowKind.TheVariants.Wells, declared.entry.Fixed.Fixed}
use Rattle.step_problem.specs.{declared.entry.FixedKind.TheVariants.General, declared.entry.River.River, declared.entry.Drain.Drain}
use Rattle.model_types.specs.{declared.entry.Entry.Entry, declared.period.Period.Period, declared.entry.Entry.TheVariants.Well}
use Rattle.model_types.specs.{declared.entry.Entry.TheVariants.River as RiverEntry, declared.entry.Entry.TheVariants.Drain as DrainEntry}
use Rattle.model_types.specs.{declared.entry.Entry.TheVariants.General as GeneralEntry, cell_of, entries_of, as_river, as_drain, IsEntryValid, most_cells}
use Rattle.model_types.specs.{declared.limits.Limits.TheVariants.Wide}
use Rattle.problem_builder.specs.Cells.{flow_of_pair, known_head, whole_river, whole_drain}
use Rattle.problem_builder.specs.GridHeads.{well_pair, cond_pair, head_bound}

-- by kind, in the order of the lists
pub record LocalBounds : Type 0 where
  pub wells : List Flow
  pub rivers : List River
  pub drains : List Drain
  pub generals : List Fixed

abbrev pub no_bounds : LocalBounds
no_bounds = record { wells = []; rivers = []; drains = []; generals = [] }

-- of a cell that keeps its bounds only if it has entries
abbrev pub kept_bounds : Option (Box LocalBounds) → LocalBounds
kept_bounds None = no_bounds
kept_bounds (Some b) = b.value

abbrev pub local_in : List LocalBounds → ℕ → LocalBounds
local_in xs c = slice_index_or xs c no_bounds

-- what an entry of cell c gives each kind
abbrev pub well_of : ℕ → Entry → Option Flow
well_of s (Well cell q) = Some (flow_of_pair Wells (well_pair s q))
well_of s (RiverEntry cell stage k bottom) = None
well_of s (DrainEntry cell elevation k) = None
well_of s (GeneralEntry cell head k) = None

abbrev pub general_of : ℕ → ℕ → Entry → Option Fixed
general_of s c (Well cell q) = None
general_of s c (RiverEntry cell stage k bottom) = None
general_of s c (DrainEntry cell elevation k) = None
general_of s c (GeneralEntry cell head k) = Some (known_head General c (cond_pair s k) (head_bound head))

-- the bounds of these entries of cell c
abbrev pub local_bounds : ℕ → ℕ → List Entry → LocalBounds
local_bounds s c entries = record {
  wells = filter_map (well_of s) entries;
  rivers = filter_map (λ x. option_map (whole_river s) (as_river x)) entries;
  drains = filter_map (λ x. option_map (whole_drain s) (as_drain x)) entries;
  generals = filter_map (general_of s c) entries;
}

abbrev pub AreLocalBounds : ℕ → ℕ → LocalBounds → List Entry → Type 0
AreLocalBounds s c x entries = x ≡ local_bounds s c entries

-- each cell has the bounds of those of these entries that are its own, after those that it had
abbrev pub AreAppended : ℕ → List LocalBounds → List LocalBounds → List Entry → Type 0
AreAppended s old new added =
    (c : ℕ) (entries : List Entry) → AreLocalBounds s c (local_in old c) entries → AreLocalBounds s c (local_in new c) (entries ++ entries_of c added)

-- an entry of a cell of a grid of this many, and the lists of a period of such entries
abbrev pub IsEntryIn : ℕ → Entry → Type 0
IsEntryIn cells x = (cell_of x < cells) × IsEntryValid (most_cells Wide) x

pub record AreEntriesIn (cells : ℕ) (p : Period) : Type 0 where
  pub wells : All (IsEntryIn cells) p.stresses.wells
  pub rivers : All (IsEntryIn cells) p.stresses.rivers
  pub drains : All (IsEntryIn cells) p.stresses.drains
  pub generals : All (IsEntryIn cells) p.stresses.generals
