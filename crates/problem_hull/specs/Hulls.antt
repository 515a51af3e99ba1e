-- The hull of two problems that are alike: each number has the lesser of the two lower bounds and the greater of the
-- two upper ones.
use Rattle.std.specs.Prelude.{◌≡◌, ℤ, List, min, max, [], ◌∷◌, pos, map}
use Rattle.std.specs.Int.{int_min, int_max}
use Rattle.step_problem.specs.{declared.entry.Link.Link, declared.entry.Flow.Flow, declared.entry.Fixed.Fixed, declared.entry.River.River}
use Rattle.step_problem.specs.{declared.entry.Drain.Drain, declared.entry.Evap.Evap, Entries.Entries}

-- The shape of a problem: its cells, their links, and which entries each cell has, without the bounds of the entries.
-- an entry with all its bounds at 0; a link keeps its bounds, since conductances between cells are of the shape
abbrev pub link_shape : Link → Link
link_shape x = x

abbrev pub flow_shape : Flow → Flow
flow_shape x = record x { lo = pos 0; hi = pos 0 }

abbrev pub fixed_shape : Fixed → Fixed
fixed_shape x = record x { lo = 0; hi = 0; head_lo = pos 0; head_hi = pos 0 }

abbrev pub river_shape : River → River
river_shape x = record { lo = 0; hi = 0; stage_lo = pos 0; stage_hi = pos 0; bottom_lo = pos 0; bottom_hi = pos 0 }

abbrev pub drain_shape : Drain → Drain
drain_shape x = record { lo = 0; hi = 0; elev_lo = pos 0; elev_hi = pos 0 }

abbrev pub evap_shape : Evap → Evap
evap_shape x = record { lo = 0; hi = 0; ext_lo = pos 0; ext_hi = pos 0; surf_lo = pos 0; surf_hi = pos 0 }

abbrev pub cell_shape : Entries → Entries
cell_shape c = record c {
  flows = map flow_shape c.flows;
  fixed = map fixed_shape c.fixed;
  rivers = map river_shape c.rivers;
  drains = map drain_shape c.drains;
  evaps = map evap_shape c.evaps;
}

-- Two problems are alike: they have the same cells, links and entries, which differ in their bounds alone.
abbrev pub AreAlike : List Entries → List Entries → Type 0
AreAlike p q = map cell_shape q ≡ map cell_shape p

-- lo and hi are the hull of the bounds a, b and of c, d
pub record IsHullPair (a b c d lo hi : ℤ) : Type 0 where
  pub low : lo ≡ int_min a c
  pub high : hi ≡ int_max b d

-- the hull of two entries
abbrev pub link_hull : Link → Link → Link
link_hull a b = a

abbrev pub flow_hull : Flow → Flow → Flow
flow_hull a b = record a { lo = int_min a.lo b.lo; hi = int_max a.hi b.hi }

abbrev pub fixed_hull : Fixed → Fixed → Fixed
fixed_hull a b = record a { lo = min a.lo b.lo; hi = max a.hi b.hi; head_lo = int_min a.head_lo b.head_lo; head_hi = int_max a.head_hi b.head_hi }

abbrev pub river_hull : River → River → River
river_hull a b = record {
  lo = min a.lo b.lo;
  hi = max a.hi b.hi;
  stage_lo = int_min a.stage_lo b.stage_lo;
  stage_hi = int_max a.stage_hi b.stage_hi;
  bottom_lo = int_min a.bottom_lo b.bottom_lo;
  bottom_hi = int_max a.bottom_hi b.bottom_hi;
}

abbrev pub drain_hull : Drain → Drain → Drain
drain_hull a b = record { lo = min a.lo b.lo; hi = max a.hi b.hi; elev_lo = int_min a.elev_lo b.elev_lo; elev_hi = int_max a.elev_hi b.elev_hi }

abbrev pub evap_hull : Evap → Evap → Evap
evap_hull a b = record {
  lo = min a.lo b.lo;
  hi = max a.hi b.hi;
  ext_lo = int_min a.ext_lo b.ext_lo;
  ext_hi = int_max a.ext_hi b.ext_hi;
  surf_lo = int_min a.surf_lo b.surf_lo;
  surf_hi = int_max a.surf_hi b.surf_hi;
}

-- f of the items of two lists at each place, up to the end of the shorter one
abbrev pub zip_with : {X Y Z : Type 0} → (X → Y → Z) → List X → List Y → List Z
zip_with f [] ys = []
zip_with f (x ∷ xs) [] = []
zip_with f (x ∷ xs) (y ∷ ys) = f x y ∷ zip_with f xs ys

-- the hull of two cells; cells of one shape have the same links
abbrev pub cell_hull : Entries → Entries → Entries
cell_hull a b = record a {
  flows = zip_with flow_hull a.flows b.flows;
  fixed = zip_with fixed_hull a.fixed b.fixed;
  rivers = zip_with river_hull a.rivers b.rivers;
  drains = zip_with drain_hull a.drains b.drains;
  evaps = zip_with evap_hull a.evaps b.evaps;
}

-- r is the hull of a and b, which have one shape
pub record IsHullOf {X : Type 0} (shape : X → X) (hull : X → X → X) (a b r : X) : Type 0 where
  pub alike : shape b ≡ shape a
  pub is : r ≡ hull a b

-- r is the hull of the problems p and q, cell by cell
abbrev pub IsHull : List Entries → List Entries → List Entries → Type 0
IsHull p q r = IsHullOf (map cell_shape) (zip_with cell_hull) p q r
