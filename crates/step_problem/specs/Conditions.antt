-- The conditions on a list of cells that make it a step's problem.
use Rattle.std.specs.Prelude.{◌≡◌, ℕ, ℤ, pos, neg_ℤ, List, All, Contains, length, max, sum_by, unsigned_abs, ◌+◌, ◌*◌, ◌^◌, ◌<◌, ◌≤◌, ◌-ℤ◌, ◌≤ℤ◌}
use Rattle.step_problem.specs.{declared.entry.Link.Link, declared.entry.Fixed.Fixed, declared.entry.River.River, declared.entry.Drain.Drain}
use Rattle.step_problem.specs.{declared.entry.Evap.Evap, Entries.Entries, Entries.entries_at, Entries.link_at, declared.heads.Side.Side}
use Rattle.step_problem.specs.{declared.heads.Side.TheVariants.Low, declared.heads.Side.TheVariants.High, Balances.bound_on, Balances.branch_flow}

-- z lies from -b to b
pub record IsMagnitudeAtMost (z : ℤ) (b : ℕ) : Type 0 where
  pub above : neg_ℤ (pos b) ≤ℤ z
  pub below : z ≤ℤ pos b

-- heads lie from -4000000000 to 4000000000 length units, in units of 10^-9
abbrev pub head_limit : ℕ
head_limit = 4000000000000000000

abbrev pub IsHead : ℤ → Type 0
IsHead v = IsMagnitudeAtMost v head_limit

-- the bounds of a conductance are in order, and heads are in range
pub record LinkFits (x : Link) : Type 0 where
  pub conducts : 0 < x.lo
  pub ordered : x.lo ≤ x.hi

pub record FixedFits (x : Fixed) : Type 0 where
  pub ordered : x.lo ≤ x.hi
  pub head_lo : IsHead x.head_lo
  pub head_hi : IsHead x.head_hi

pub record RiverFits (x : River) : Type 0 where
  pub ordered : x.lo ≤ x.hi
  pub stage_lo : IsHead x.stage_lo
  pub stage_hi : IsHead x.stage_hi
  pub bottom_lo : IsHead x.bottom_lo
  pub bottom_hi : IsHead x.bottom_hi

pub record DrainFits (x : Drain) : Type 0 where
  pub ordered : x.lo ≤ x.hi
  pub elev_lo : IsHead x.elev_lo
  pub elev_hi : IsHead x.elev_hi

pub record EvapFits (x : Evap) : Type 0 where
  pub ordered : x.lo ≤ x.hi
  pub ext_lo : IsHead x.ext_lo
  pub ext_hi : IsHead x.ext_hi
  pub surf_lo : IsHead x.surf_lo
  pub surf_hi : IsHead x.surf_hi
  pub deep : x.ext_lo ≤ℤ x.surf_hi

-- the most variable cells of a problem: those of a grid by the wide limits
abbrev pub cell_limit : ℕ
cell_limit = 4194304

-- the sum of all upper conductances at a cell
abbrev pub conductance_of : Entries → ℕ
conductance_of c =
    sum_by (λ x. x.hi) c.links + sum_by (λ x. x.hi) c.fixed + sum_by (λ x. x.hi) c.rivers
    + sum_by (λ x. x.hi) c.drains + sum_by (λ x. x.hi) c.evaps

-- the greater magnitude of two bounds of a flow
abbrev pub magnitude : ℤ → ℤ → ℕ
magnitude lo hi = max (unsigned_abs lo) (unsigned_abs hi)

-- a bound of a river's deep flow, which it gives where the head is at or below its bottom
abbrev pub deep_river : Side → River → ℤ
deep_river side x = branch_flow side x.lo x.hi (bound_on side x.stage_lo x.stage_hi -ℤ bound_on side x.bottom_hi x.bottom_lo)

-- the greatest rate of an evaporation
abbrev pub full_rate : Evap → ℕ
full_rate x = x.hi * unsigned_abs (x.surf_hi -ℤ x.ext_lo)

-- the sum of the magnitudes of a cell's constant and deep flows
abbrev pub flow_magnitude : Entries → ℕ
flow_magnitude c =
    sum_by (λ x. magnitude x.lo x.hi) c.flows + sum_by (λ x. magnitude (deep_river Low x) (deep_river High x)) c.rivers
    + sum_by full_rate c.evaps

-- the conditions on a cell alone
pub record CellFits (c : Entries) : Type 0 where
  pub links : All LinkFits c.links
  pub fixed : All FixedFits c.fixed
  pub rivers : All RiverFits c.rivers
  pub drains : All DrainFits c.drains
  pub evaps : All EvapFits c.evaps
  pub conductances : conductance_of c < 2 ^ 60
  pub flows : flow_magnitude c < 2 ^ 109

-- the links of cell c: at most six, to different other cells of the problem, each with an equal one back
pub record LinksFit (p : List Entries) (c : ℕ) (links : List Link) : Type 0 where
  pub few : length links ≤ 6
  pub within : All (λ x. x.cell < length p) links
  pub others : All (λ x. x.cell ≡ c → ⊥) links
  pub apart : (i j : ℕ) → i < j → j < length links → (link_at links i).cell ≡ (link_at links j).cell → ⊥
  pub mutual_ends : All (λ x. Contains (entries_at p x.cell).links (record { cell = c; lo = x.lo; hi = x.hi })) links

-- a step's problem: its variable cells by ascending cell number
pub record IsProblem (p : List Entries) : Type 0 where
  pub few : length p ≤ cell_limit
  pub ascending : (c d : ℕ) → c < d → d < length p → (entries_at p c).id < (entries_at p d).id
  pub cells : (c : ℕ) → c < length p → CellFits (entries_at p c)
  pub links : (c : ℕ) → c < length p → LinksFit p c (entries_at p c).links
