-- What is known of a discretization that was read, whatever the folder returned: limits, lengths and signs.
use Rattle.std.specs.Prelude.{◌≡◌, ℕ, ◌*◌, ◌<◌, ◌≤◌, false, List, All, length, replicate, take, drop, sum_by}
use Rattle.decimal_input.specs.{IsDec, declared.dec.Dec.Dec}
use Rattle.model_types.specs.{declared.model.FlowModel.FlowModel, declared.period.Period.Period, IsGrid, no_stresses, IsTimed, layer_size, cell_count, int_at}
use Rattle.model_types.specs.{is_nonzero, no_number, most_layers, most_in_row, most_cells, declared.grid.Grid.Grid, declared.limits.Limits.Limits}
use Rattle.model_types.specs.{declared.limits.Limits.TheVariants.Wide}
use Rattle.array_text.specs.{IsShort}
use Rattle.dis_package.specs.{Frames.model_of_grid, declared.frame.Frame.Frame, declared.frame.Size.Size, declared.periods.Time.Time}

-- the size of a grid in the wide limits
pub record IsSize (s : Size) : Type 0 where
  pub layers : (1 ≤ s.layers) × (s.layers ≤ 1024)
  pub rows : (1 ≤ s.rows) × (s.rows ≤ 4096)
  pub cols : (1 ≤ s.cols) × (s.cols ≤ 4096)
  pub cells : s.layers * (s.rows * s.cols) ≤ most_cells Wide

pub record IsFrame (f : Frame) : Type 0 where
  pub size : IsSize f.size
  pub periods : (1 ≤ f.periods) × (f.periods ≤ 1000)

-- the words of a period's line
pub record IsTime (t : Time) : Type 0 where
  pub perlen : IsDec t.perlen
  pub nstp : (1 ≤ t.nstp) × (t.nstp ≤ 100000)
  pub tsmult : IsDec t.tsmult

-- a period without its stresses
abbrev pub without_stresses : Period → Period
without_stresses p = record p { stresses = no_stresses }

-- a period whose times are in limits, and which has no stresses yet
pub record IsNewPeriod (p : Period) : Type 0 where
  pub times : IsTimed p
  pub new : p ≡ without_stresses p

-- a list by cell is 0 in each layer that has no confining bed below it
abbrev pub IsOfBeds : Grid → List Dec → Type 0
IsOfBeds g xs =
    (k : ℕ) → k < g.layers → is_nonzero (int_at g.laycbd k) ≡ false →
    take (layer_size g) (drop (k * layer_size g) xs) ≡ replicate (layer_size g) no_number

-- a grid of at most these limits
pub record IsGridWithin (limits : Limits) (g : Grid) : Type 0 where
  pub layers : g.layers ≤ most_layers limits
  pub rows : g.rows ≤ most_in_row limits
  pub cols : g.cols ≤ most_in_row limits
  pub cells : cell_count g ≤ most_cells limits

-- DIS: a grid in limits, integers of at most 18 digits, and 1 to 1000 stress periods with at most 100000 time steps
pub record IsDiscretized (m : FlowModel) : Type 0 where
  pub grid : IsGrid m.grid
  pub laycbd : All IsShort m.grid.laycbd
  pub bed_bottom : IsOfBeds m.grid m.grid.bed_bottom
  pub lenuni : IsShort m.lenuni
  pub some : 1 ≤ length m.periods
  pub few : length m.periods ≤ 1000
  pub steps : sum_by (λ p. p.nstp) m.periods ≤ 100000
  pub times : All IsTimed m.periods

-- a model that has a grid and stress periods, and nothing else yet
pub record IsBegun (m : FlowModel) : Type 0 where
  pub discretized : IsDiscretized m
  pub periods : All IsNewPeriod m.periods
  pub new : m ≡ model_of_grid m.grid m.lenuni m.periods
