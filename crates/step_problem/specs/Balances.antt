-- The two balances of a variable cell: bounds of the sum of all flows into it (TM 6-A16, chapter 2, the
-- finite-difference equation), over entries that are known by bounds.
use Rattle.std.specs.Prelude.{ℕ, ℤ, pos, neg_ℤ, ◌+ℤ◌, ◌-ℤ◌, List, [], ◌∷◌, ◌*◌, negsuc, suc}
use Rattle.std.specs.Int.{int_max, int_min}
use Rattle.step_problem.specs.{declared.entry.Link.Link, declared.entry.Fixed.Fixed, declared.entry.River.River, declared.entry.Drain.Drain}
use Rattle.step_problem.specs.{declared.entry.Evap.Evap, Entries.Entries, declared.heads.Side.Side, declared.heads.Side.TheVariants.Low}
use Rattle.step_problem.specs.{declared.heads.Side.TheVariants.High, declared.entry.Flow.Flow}

-- Flows over a conductance that is known by two bounds.
-- the least of c * d, for a conductance c from lo to hi
abbrev pub least : ℕ → ℕ → ℤ → ℤ
least lo hi (pos n) = pos (lo * n)
least lo hi (negsuc n) = neg_ℤ (pos (hi * suc n))

-- the greatest of c * d, for a conductance c from lo to hi
abbrev pub most : ℕ → ℕ → ℤ → ℤ
most lo hi (pos n) = pos (hi * n)
most lo hi (negsuc n) = neg_ℤ (pos (lo * suc n))

-- the sum of f over a list
abbrev pub total : {X : Type 0} → (X → ℤ) → List X → ℤ
total f [] = pos 0
total f (x ∷ xs) = f x +ℤ total f xs

-- The flow of each kind of entry into a cell whose head is v, on a side of its bounds: the least one on the lower side,
-- the greatest one on the upper side.
abbrev pub branch_flow : Side → ℕ → ℕ → ℤ → ℤ
branch_flow Low = least
branch_flow High = most

-- the bound of a value from lo to hi, on a side
abbrev pub bound_on : {X : Type 0} → Side → X → X → X
bound_on Low lo hi = lo
bound_on High lo hi = hi

abbrev pub flow_bound : Side → Flow → ℤ
flow_bound side x = bound_on side x.lo x.hi

-- C * (head at the other end - head), where cell k has the head h k
abbrev pub link_flow : Side → (ℕ → ℤ) → ℤ → Link → ℤ
link_flow side h v x = branch_flow side x.lo x.hi (h x.cell -ℤ v)

abbrev pub fixed_flow : Side → ℤ → Fixed → ℤ
fixed_flow side v x = branch_flow side x.lo x.hi (bound_on side x.head_lo x.head_hi -ℤ v)

-- C * (stage - head), where the head counts from the river's bottom up
abbrev pub river_flow : Side → ℤ → River → ℤ
river_flow side v x = branch_flow side x.lo x.hi (bound_on side x.stage_lo x.stage_hi -ℤ int_max v (bound_on side x.bottom_hi x.bottom_lo))

-- C * (elevation - head) above the drain's elevation, 0 below
abbrev pub drain_flow : Side → ℤ → Drain → ℤ
drain_flow side v x = branch_flow side x.lo x.hi (int_min (bound_on side x.elev_lo x.elev_hi -ℤ v) (pos 0))

-- C * (extinction - head), where the head counts from the extinction elevation up to the surface
abbrev pub evap_flow : Side → ℤ → Evap → ℤ
evap_flow side v x = branch_flow side x.lo x.hi (int_min (bound_on side x.ext_lo x.ext_hi -ℤ int_min v (bound_on side x.surf_hi x.surf_lo)) (pos 0))

-- the balance of a cell on a side, at its head v, where cell k has the head h k
abbrev pub balance : Side → Entries → ℤ → (ℕ → ℤ) → ℤ
balance side c v h =
    total (flow_bound side) c.flows +ℤ total (link_flow side h v) c.links +ℤ total (fixed_flow side v) c.fixed
    +ℤ total (river_flow side v) c.rivers +ℤ total (drain_flow side v) c.drains +ℤ total (evap_flow side v) c.evaps

abbrev pub lower_balance : Entries → ℤ → (ℕ → ℤ) → ℤ
lower_balance = balance Low

abbrev pub upper_balance : Entries → ℤ → (ℕ → ℤ) → ℤ
upper_balance = balance High
