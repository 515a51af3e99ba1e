-- The flow of each kind into a variable cell, and their sum, at heads that are fractions (TM 6-A16, chapters 2 and 6). A flow into the cell is positive.
use Rattle.std.specs.Prelude.{ℕ, ◌+◌, ◌*◌, pos, ◌*ℤ◌, ◌≡◌, ◌-◌, ◌^◌, ◌<◌, List, length, ℤ, ◌≤ℤ◌, zero, suc, All, Bool, true, cond}
use Rattle.std.specs.Int.{int_max, int_min}
use Rattle.decimal_input.specs.{Fraction, whole, as_fraction, opposite, fraction_total, Fractions.den, Fractions.plus, Fractions.times, Fractions.AtMost}
use Rattle.cell_balance.specs.Steps.{ExactLink, ExactFixed, ExactRiver, ExactDrain, ExactEvap, ExactCell, cell_at}

-- f - g
abbrev pub minus : Fraction → Fraction → Fraction
minus f g = plus f (opposite g)

-- the greater and the lesser of two fractions, over the product of their denominators
abbrev pub greater : Fraction → Fraction → Fraction
greater f g = record { num = int_max (f.num *ℤ pos (den g)) (g.num *ℤ pos (den f)); less = f.less * g.less + f.less + g.less }

abbrev pub lesser : Fraction → Fraction → Fraction
lesser f g = record { num = int_min (f.num *ℤ pos (den g)) (g.num *ℤ pos (den f)); less = f.less * g.less + f.less + g.less }

-- C * (head at the other end - head) (TM 6-A16, chapter 2: Darcy's law between two cells, by the conductance)
abbrev pub link_flow : (ℕ → Fraction) → Fraction → ExactLink → Fraction
link_flow h v x = times (as_fraction x.conductance) (minus (h x.cell) v)

abbrev pub fixed_flow : Fraction → ExactFixed → Fraction
fixed_flow v x = times (as_fraction x.conductance) (minus x.head v)

-- C * (stage - head), where the head counts from the river's bottom up (TM 6-A16, chapter 6, RIV)
abbrev pub river_flow : Fraction → ExactRiver → Fraction
river_flow v x = times (as_fraction x.conductance) (minus x.stage (greater v x.bottom))

-- -C * (head - elevation) above the drain's elevation, 0 below (TM 6-A16, chapter 6, DRN)
abbrev pub drain_flow : Fraction → ExactDrain → Fraction
drain_flow v x = opposite (times (as_fraction x.conductance) (greater (minus v x.elevation) (whole (pos 0))))

-- -C * (head - extinction), where the head counts from the extinction elevation up to the surface (TM 6-A16, chapter 6, EVT)
abbrev pub evap_flow : Fraction → ExactEvap → Fraction
evap_flow v x = opposite (times (as_fraction x.conductance) (greater (minus (lesser v x.surface) x.extinction) (whole (pos 0))))

-- The balance of a cell at its head v, where the cell of index k has the head h k: the sum of all flows into it (TM
-- 6-A16, chapter 2, the finite-difference equation with all terms on one side).
abbrev pub balance : ExactCell → Fraction → (ℕ → Fraction) → Fraction
balance c v h =
    plus (fraction_total (λ x. x.flow) c.flows)
    (plus (fraction_total (link_flow h v) c.links)
    (plus (fraction_total (fixed_flow v) c.fixed)
    (plus (fraction_total (river_flow v) c.rivers)
    (plus (fraction_total (drain_flow v) c.drains)
    (fraction_total (evap_flow v) c.evaps)))))

-- What solving a step means, and lying between two vectors of whole heads.
-- z over d, for d above 0
abbrev pub share : ℕ → ℤ → Fraction
share d z = record { num = z; less = d - 1 }

-- The heads X over the one denominator d, by the index of the variable cell, make the balance of each variable cell
-- zero (TM 6-A16, chapter 2: a solution of the finite-difference equations of one step).
abbrev pub SolvesStep : List ExactCell → ℕ → (ℕ → ℤ) → Type 0
SolvesStep e d X = (c : ℕ) → c < length e → (balance (cell_at e c) (share d (X c)) (λ k. share d (X k))).num ≡ pos 0

-- The heads X over d lie between whole heads in units of 10^-9 length units, at each of n cells.
pub record LiesBetween (n d : ℕ) (X l u : ℕ → ℤ) : Type 0 where
  pub low : (c : ℕ) → c < n → (l c *ℤ pos d) ≤ℤ (X c *ℤ pos (10 ^ 9))
  pub high : (c : ℕ) → c < n → (X c *ℤ pos (10 ^ 9)) ≤ℤ (u c *ℤ pos d)

-- Sets of cells, sums over them, and the flow into a cell whose head lies below all bottoms, drains and known heads.
-- f 0 + .. + f (n - 1), of fractions
abbrev pub total_below : ℕ → (ℕ → Fraction) → Fraction
total_below zero f = whole (pos 0)
total_below (suc n) f = plus (total_below n f) (f n)

-- the sum of f over the cells below n that pass the test
abbrev pub total_inside : ℕ → (ℕ → Bool) → (ℕ → Fraction) → Fraction
total_inside n inside f = total_below n (λ k. cond (inside k) (f k) (whole (pos 0)))

-- a set of cells that no link leaves
abbrev pub IsClosed : List ExactCell → (ℕ → Bool) → Type 0
IsClosed e inside = (c : ℕ) → c < length e → inside c ≡ true → All (λ x. inside x.cell ≡ true) (cell_at e c).links

-- what a river gives where the head is at or below its bottom: C * (stage - bottom) (TM 6-A16, chapter 6, RIV)
abbrev pub deep_river : ExactRiver → Fraction
deep_river x = times (as_fraction x.conductance) (minus x.stage x.bottom)

-- what an evapotranspiration takes where the head is at or above the surface: its greatest rate (TM 6-A16, chapter 6, EVT)
abbrev pub full_rate : ExactEvap → Fraction
full_rate x = times (as_fraction x.conductance) (greater (minus x.surface x.extinction) (whole (pos 0)))

-- A cell's deep flow: its constant flows and its rivers at their bottoms, less its evapotranspirations at their full rate.
abbrev pub deep_flow : ExactCell → Fraction
deep_flow c = plus (fraction_total (λ x. x.flow) c.flows) (minus (fraction_total deep_river c.rivers) (fraction_total full_rate c.evaps))

-- The head v lies at or below every fixed head, bottom and elevation of the cell whose conductance is above 0.
pub record LiesBelow (v : Fraction) (c : ExactCell) : Type 0 where
  pub fixed : All (λ x. 0 < x.conductance.num → AtMost v x.head) c.fixed
  pub rivers : All (λ x. 0 < x.conductance.num → AtMost v x.bottom) c.rivers
  pub drains : All (λ x. 0 < x.conductance.num → AtMost v x.elevation) c.drains
