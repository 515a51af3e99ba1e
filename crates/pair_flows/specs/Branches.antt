-- Branches between cells whose saturated thickness follows their heads: convertible layers of LPF (TM 6-A16, chapter 5). All
-- lengths, conductances and resistances are whole numbers in one unit each; heads and elevations count from one level below all of them.
use Rattle.std.specs.Prelude.{ℕ, min, ◌+◌, ◌-◌, ◌*◌, ◌≤◌, ◌⊎◌}

-- A flow as the quotient of two whole numbers. Two are compared by products with their denominators, neither of which is to be 0.
pub record Quotient : Type 0 where
  pub num : ℕ
  pub den : ℕ

abbrev pub AtMost : Quotient → Quotient → Type 0
AtMost f g = (f.num * g.den) ≤ (g.num * f.den)

-- A cell as one half of a horizontal branch. Per unit of saturated thickness the half conducts twice the cell's width times its
-- conductivity, over its length along the branch.
pub record CellHalf : Type 0 where
  pub bottom : ℕ
  pub top : ℕ
  pub per_unit : ℕ

-- What lies below the head, between the cell's bottom and its top (TM 6-A16, chapter 5, convertible layers).
abbrev pub saturated_thickness : CellHalf → ℕ → ℕ
saturated_thickness c head = min head c.top - c.bottom

abbrev pub half_conductance : CellHalf → ℕ → ℕ
half_conductance c head = c.per_unit * saturated_thickness c head

-- The flow from the cell u of head a to the cell c of head b, where b isn't above a: the conductance of two halves x and y in
-- series, x * y / (x + y), times the drop (TM 6-A16, chapter 5, harmonic mean; chapter 2, Darcy's law).
abbrev pub horizontal_flow : CellHalf → CellHalf → ℕ → ℕ → Quotient
horizontal_flow u c a b = record {
  num = half_conductance u a * half_conductance c b * (a - b);
  den = half_conductance u a + half_conductance c b;
}

-- Gentle: the drop to the lower cell is at most its saturated thickness, or that cell is full.
abbrev pub IsGentle : CellHalf → ℕ → ℕ → Type 0
IsGentle c a b = ((a - b) ≤ saturated_thickness c b) ⊎ (c.top ≤ b)

-- As the head of the lower cell rises towards the upper one's, the flow into it doesn't grow: where the upper half times the
-- drop is at most the lower cell's saturated thickness times both halves' sum, or where the lower cell is full.
abbrev pub LowerHeadLaw : Type 0
LowerHeadLaw = (u c : CellHalf) (a b b' : ℕ) → b ≤ b' → b' ≤ a →
    ((half_conductance u a * (a - b)) ≤ (saturated_thickness c b * (half_conductance u a + half_conductance c b))) ⊎ (c.top ≤ b) →
    AtMost (horizontal_flow u c a b') (horizontal_flow u c a b)

-- Gentle heads meet that.
abbrev pub GentleLaw : Type 0
GentleLaw = (u c : CellHalf) (a b : ℕ) → (a - b) ≤ saturated_thickness c b →
    (half_conductance u a * (a - b)) ≤ (saturated_thickness c b * (half_conductance u a + half_conductance c b))

-- As the head of the upper cell rises, the flow out of it doesn't fall.
abbrev pub UpperHeadLaw : Type 0
UpperHeadLaw = (u c : CellHalf) (a a' b : ℕ) → b ≤ a → a ≤ a' → AtMost (horizontal_flow u c a b) (horizontal_flow u c a' b)

-- Both at once, for gentle heads: with an upper head that is higher and a lower one that is lower the flow isn't less.
abbrev pub GentleOrderLaw : Type 0
GentleOrderLaw = (u c : CellHalf) (a a' b b' : ℕ) → b ≤ a → a ≤ a' → b' ≤ b → IsGentle c a' b' →
    AtMost (horizontal_flow u c a b) (horizontal_flow u c a' b')

-- A branch from a cell to the full cell below it: the resistance of the upper cell for each unit of its saturated thickness,
-- and that of the rest of the way (TM 6-A16, chapter 5, vertical conductance with a bed between layers).
pub record VerticalBranch : Type 0 where
  pub upper : CellHalf
  pub rest : ℕ

abbrev pub resistance : VerticalBranch → ℕ → ℕ
resistance v head = v.upper.per_unit * saturated_thickness v.upper head + v.rest

-- The flow down from the upper cell of head a to the lower one of head b, and the flow up.
abbrev pub downward_flow : VerticalBranch → ℕ → ℕ → Quotient
downward_flow v a b = record { num = a - b; den = resistance v a }

abbrev pub upward_flow : VerticalBranch → ℕ → ℕ → Quotient
upward_flow v a b = record { num = b - a; den = resistance v a }

-- Where the lower head is at or above the upper cell's bottom, the flow down isn't less with an upper head that is higher and a lower one that is lower.
abbrev pub DownwardLaw : Type 0
DownwardLaw = (v : VerticalBranch) (a a' b b' : ℕ) → v.upper.bottom ≤ b' → b' ≤ b → b ≤ a → a ≤ a' →
    AtMost (downward_flow v a b) (downward_flow v a' b')

-- The flow up isn't less with an upper head that is lower and a lower one that is higher.
abbrev pub UpwardLaw : Type 0
UpwardLaw = (v : VerticalBranch) (a a' b b' : ℕ) → a' ≤ a → a ≤ b → b ≤ b' → AtMost (upward_flow v a b) (upward_flow v a' b')
