-- The base of each side: the outermost of the known heads, stages, bottoms and elevations of a problem that may conduct.
use Rattle.std.specs.Prelude.{ℕ, zero, suc, List, [], ◌∷◌, Option, None, Some, ℤ, pos, ◌^◌, min, sum_by}
use Rattle.std.specs.{Int.int_max, Int.int_min, Option.unwrap_or}
use Rattle.step_problem.specs.{declared.heads.Side.Side, declared.heads.Side.TheVariants.Low, declared.heads.Side.TheVariants.High, declared.entry.Fixed.Fixed}
use Rattle.step_problem.specs.{declared.entry.River.River, declared.entry.Drain.Drain, Entries.Entries, bound_on, total}
use Rattle.cell_balance.specs.{deep_low}
use Rattle.decimal_input.specs.{down, up}

-- v where the upper conductance hi is above 0
abbrev pub if_some : ℕ → ℤ → Option ℤ
if_some zero v = None
if_some (suc n) v = Some v

-- the mark of a known head: its lower bound on the low side, its upper bound on the high side
abbrev pub fixed_mark : Side → Fixed → Option ℤ
fixed_mark side x = if_some x.hi (bound_on side x.head_lo x.head_hi)

-- the mark of a river: the lower bound of its bottom, or the greater of the upper bounds of its stage and its bottom
abbrev pub river_mark : Side → River → Option ℤ
river_mark side x = if_some x.hi (bound_on side x.bottom_lo (int_max x.stage_hi x.bottom_hi))

-- the mark of a drain: its elevation
abbrev pub drain_mark : Side → Drain → Option ℤ
drain_mark side x = if_some x.hi (bound_on side x.elev_lo x.elev_hi)

-- the outer of two marks: the lower one on the low side, the higher one on the high side
abbrev pub outer_of : Side → Option ℤ → Option ℤ → Option ℤ
outer_of side None b = b
outer_of side (Some a) None = Some a
outer_of Low (Some a) (Some b) = Some (int_min a b)
outer_of High (Some a) (Some b) = Some (int_max a b)

-- the outermost of the marks of a list's elements; None where none has one
abbrev pub outermost : {X : Type 0} → Side → (X → Option ℤ) → List X → Option ℤ
outermost side mark [] = None
outermost side mark (x ∷ xs) = outer_of side (mark x) (outermost side mark xs)

-- the outermost mark of a cell: of its known heads, its rivers and its drains
abbrev pub cell_mark : Side → Entries → Option ℤ
cell_mark side c = outer_of side (outermost side (fixed_mark side) c.fixed)
    (outer_of side (outermost side (river_mark side) c.rivers) (outermost side (drain_mark side) c.drains))

-- the base of a side: the outermost mark of the problem, 0 if it has none
abbrev pub base_on : Side → List Entries → ℤ
base_on side p = unwrap_or (outermost side (cell_mark side) p) (pos 0)

-- The lack and the surplus of flow of all cells of a problem.
-- the greatest sum of a cell's constant flows
abbrev pub high_flow : Entries → ℤ
high_flow c = total (λ x. x.hi) c.flows

-- what a cell adds to the need of a side: the negative part of its least deep flow, or the positive part (`up`) of its greatest constant flow
abbrev pub need_on : Side → Entries → ℕ
need_on Low c = down (deep_low c)
need_on High c = up (high_flow c)

-- the need of a side: the lack of flow of all cells, or their surplus
abbrev pub need : Side → List Entries → ℕ
need side p = sum_by (need_on side) p

abbrev pub lack : List Entries → ℕ
lack = need Low

-- a flow, at most 2 ^ 126. Over any conductance of a problem, which is below 2 ^ 60, so great a flow drops farther than heads can lie apart.
abbrev pub capped_flow : ℕ → ℕ
capped_flow q = min q (2 ^ 126)
