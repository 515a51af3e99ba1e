-- Models that are solved by hand. Lengths in metres; cells of length, width and thickness 1 and conductivity 1, so
-- that each conductance between neighbours is 1.
use Rattle.std.specs.Prelude.{ℕ, ℤ, pos, negsuc, Bool, true, false, List, [], ◌∷◌, replicate, ◌<◌, ◌≡◌, ◌+◌, ◌⊎◌}
use Rattle.decimal_input.specs.{declared.dec.Dec.Dec, number, size, Ratio, over, Ratios.plus, Ratios.times, Ratios.Same, Fractions.AtMost}
use Rattle.model_types.specs.{declared.grid.Grid.Grid, declared.grid.CellId.CellId, declared.model.FlowModel.FlowModel, declared.period.Period.Period}
use Rattle.model_types.specs.{declared.entry.Entry.Entry, declared.entry.Entry.TheVariants.Well, no_number, no_stresses, IsModel, layer_size, gap, area}
use Rattle.model_types.specs.{thickness, bed_thickness, top_at, bottom_at, lowest, hk_at, vka_at, vkcb_at, is_ratio, vertical_conductivity, IsPositive, two}
use Rattle.model_types.specs.{vertical_conductance}
use Rattle.step_problem.specs.{head_at}
use Rattle.flow_equations.specs.Histories.{Solves}

-- a whole number, and its negative, in canonical form: digits without a trailing zero
abbrev pub decimal : ℕ → ℕ → Dec
decimal digits zeros = record { neg = false; digits = digits; exp = pos zeros }

abbrev pub below_zero : ℕ → Dec
below_zero digits = record { neg = true; digits = digits; exp = pos 0 }

abbrev pub cell : ℕ → CellId
cell c = record { 0 = c }

-- a layer of one row of cells
abbrev pub row_of_cells : ℕ → Grid
row_of_cells n =
    record {
      layers = 1;
      rows = 1;
      cols = n;
      delr = replicate n (decimal 1 0);
      delc = decimal 1 0 ∷ [];
      top = replicate n (decimal 1 0);
      bottom = replicate n no_number;
      laycbd = pos 0 ∷ [];
      bed_bottom = replicate n no_number;
    }

-- a period of length `length` in `steps` steps with these wells
abbrev pub period_with : Bool → Dec → ℕ → List Entry → Period
period_with steady length steps wells =
    record { perlen = length; nstp = steps; tsmult = decimal 1 0; steady = steady; stresses = record no_stresses { wells = wells } }

-- a row of cells with these IBOUND, STRT, specific storages and period
abbrev pub row_model : List ℤ → List Dec → List Dec → Period → ℕ → FlowModel
row_model ibound strt ss period n =
    record {
      grid = row_of_cells n;
      lenuni = pos 2;
      ibound = ibound;
      strt = strt;
      layvka = pos 0 ∷ [];
      coefficient = false;
      hk = replicate n (decimal 1 0);
      hani = replicate n (decimal 1 0);
      vka = replicate n (decimal 1 0);
      ss = ss;
      vkcb = replicate n no_number;
      nrchop = pos 0;
      nevtop = pos 0;
      periods = period ∷ [];
    }

-- Three cells in a row: constant heads of 10 and 20 at the ends, a variable head between them.
abbrev pub three_cells : FlowModel
three_cells = row_model (negsuc 0 ∷ pos 1 ∷ negsuc 0 ∷ []) (decimal 1 1 ∷ no_number ∷ decimal 2 1 ∷ []) [] (period_with true (decimal 1 0) 1 []) 3

-- Three cells and one more without flow; the entries of WEL in a constant-head cell and in one without flow have no effect.
abbrev pub idle_wells : FlowModel
idle_wells =
    row_model (negsuc 0 ∷ pos 1 ∷ negsuc 0 ∷ pos 0 ∷ []) (decimal 1 1 ∷ no_number ∷ decimal 2 1 ∷ below_zero 999 ∷ [])
    [] (period_with true (decimal 1 0) 1 (Well (cell 0) (decimal 7 0) ∷ Well (cell 3) (below_zero 3) ∷ [])) 4

-- One cell with a starting head of 10, unit storage, and a well that takes 5: three steps of length 1.
abbrev pub one_cell : FlowModel
one_cell = row_model (pos 1 ∷ []) (decimal 1 1 ∷ []) (decimal 1 0 ∷ []) (period_with false (decimal 3 0) 3 (Well (cell 0) (below_zero 5) ∷ [])) 1

-- Two variable cells without any other flow.
abbrev pub two_cells : FlowModel
two_cells = row_model (pos 1 ∷ pos 1 ∷ []) (decimal 1 1 ∷ decimal 1 1 ∷ []) [] (period_with true (decimal 1 0) 1 []) 2

-- The histories that solve the worked models.
-- the middle cell's head is the mean of its neighbours'
pub record ThreeCells : Type 0 where
  pub valid : IsModel three_cells
  pub solved : Solves three_cells 1 (head_at (pos 10 ∷ pos 15 ∷ pos 20 ∷ []) ∷ [])

-- wells in cells that aren't variable have no effect
pub record IdleWells : Type 0 where
  pub valid : IsModel idle_wells
  pub solved : Solves idle_wells 1 (head_at (pos 10 ∷ pos 15 ∷ pos 20 ∷ []) ∷ [])

-- the well takes 5 out of storage at each step: 10, then 5, 0 and -5
pub record OneCell : Type 0 where
  pub valid : IsModel one_cell
  pub solved : Solves one_cell 1 (head_at (pos 5 ∷ []) ∷ head_at (pos 0 ∷ []) ∷ head_at (negsuc 4 ∷ []) ∷ [])

-- any head is a solution if it is the same in both cells
pub record TwoCells : Type 0 where
  pub valid : IsModel two_cells
  pub solved : (d : ℕ) (z : ℤ) → 0 < d → Solves two_cells d ((λ c. z) ∷ [])

-- What vertical conductances owe to the manual (TM 6-A16, chapter 5, LPF, and chapter 2, layers and confining beds).
-- the distance between the centres of a cell and of the cell below it: half of each thickness, and the thickness of the bed between them
abbrev pub distance : FlowModel → ℕ → ℕ → Ratio
distance m a b = plus (plus (over (thickness m a) two) (bed_thickness m a)) (over (thickness m b) two)

-- one material between the centres of two cells: VK of both cells is k, and so is VKCB where a bed lies between them
pub record IsOneMaterial (m : FlowModel) (k : Ratio) (a b : ℕ) : Type 0 where
  pub positive : 0 < k.num
  pub upper : Same (vertical_conductivity m a) k
  pub lower : Same (vertical_conductivity m b) k
  pub bed : ((bed_thickness m a).num ≡ 0) ⊎ Same (size (vkcb_at m a)) k
  pub thick : 0 < (thickness m a).num

-- Down through one material Darcy's law has one conductance, with a bed or without: VK * DELR * DELC over the distance between the centres.
abbrev pub MeetsDarcyDownwards : FlowModel → Type 0
MeetsDarcyDownwards m = (k : Ratio) (a b : ℕ) → IsOneMaterial m k a b → Same (vertical_conductance m a b) (over (times k (area m a)) (distance m a b))

-- VKA is VK, or where LAYVKA isn't 0 the ratio of HK to VK.
pub record HasVerticalConductivity (m : FlowModel) (c : ℕ) : Type 0 where
  pub given : is_ratio m c ≡ false → Same (vertical_conductivity m c) (size (vka_at m c))
  pub ratio : is_ratio m c ≡ true → IsPositive (vka_at m c) → Same (times (vertical_conductivity m c) (size (vka_at m c))) (size (hk_at m c))

-- elevations that fall from the top of a cell to the bottom of the cell below it
pub record ElevationsFall (m : FlowModel) (a b : ℕ) : Type 0 where
  pub cell : AtMost (number (bottom_at m a)) (number (top_at m a))
  pub bed : AtMost (number (lowest m a)) (number (bottom_at m a))
  pub below : AtMost (number (bottom_at m b)) (number (lowest m a))

-- A cell, the bed below it and the cell of the next layer fill the space from the cell's top to the other's bottom.
abbrev pub LayersFillTheSpace : FlowModel → Type 0
LayersFillTheSpace m = (a : ℕ) → ElevationsFall m a (a + layer_size m.grid) →
    Same (gap (number (top_at m a)) (number (bottom_at m (a + layer_size m.grid))))
    (plus (plus (thickness m a) (bed_thickness m a)) (thickness m (a + layer_size m.grid)))
