-- Flows between pairs of cells: what one cell of a pair gets, the other gives. Flows at all heads are whole numbers over
-- one denominator, and so are heads. A flow into a cell is positive. Nothing is said of how flows follow from heads.
use Rattle.std.specs.Prelude.{ℕ, ℤ, zero, suc, pos, neg_ℤ, ◌+ℤ◌, ◌<◌, ◌<ℤ◌, ◌≤ℤ◌, ◌≡◌}

-- The flows at one vector of heads: `pair i j` into cell i from cell j, and `own i` all others into cell i, which follow from its own head alone.
pub record CellFlows : Type 0 where
  pub pair : ℕ → ℕ → ℤ
  pub own : ℕ → ℤ

-- What cell i gets from the cells below k.
abbrev pub gain_from_first : CellFlows → ℕ → ℕ → ℤ
gain_from_first f i zero = pos 0
gain_from_first f i (suc k) = gain_from_first f i k +ℤ f.pair i k

-- The balance of cell i of n cells: the sum of all flows into it (TM 6-A16, chapter 2, the finite-difference equation with all terms on one side).
abbrev pub balance : ℕ → CellFlows → ℕ → ℤ
balance n f i = f.own i +ℤ gain_from_first f i n

-- What cell i gets from cell j, cell j gives to cell i.
abbrev pub PairsCancel : ℕ → CellFlows → Type 0
PairsCancel n f = (i j : ℕ) → i < n → j < n → f.pair i j ≡ neg_ℤ (f.pair j i)

-- The flows f at the heads x, and g at the heads y, of n cells. Where x is above y, a cell's own flow is at x at most what it
-- is at y, and so is the flow into it from each cell where x isn't above y.
pub record AreComparable (n : ℕ) (x y : ℕ → ℤ) (f g : CellFlows) : Type 0 where
  pub cancel : PairsCancel n f × PairsCancel n g
  pub own : (i : ℕ) → i < n → y i <ℤ x i → f.own i ≤ℤ g.own i
  pub pair : (i j : ℕ) → i < n → j < n → y i <ℤ x i → x j ≤ℤ y j → f.pair i j ≤ℤ g.pair i j

-- Heads x at which each cell that is above y there gains more water than at y: then no cell is. No cell needs a known head, and no head a floor.
abbrev pub OrderLaw : Type 0
OrderLaw = (n : ℕ) (x y : ℕ → ℤ) (f g : CellFlows) → AreComparable n x y f g →
    ((i : ℕ) → i < n → y i <ℤ x i → balance n g i <ℤ balance n f i) → (i : ℕ) → i < n → x i ≤ℤ y i

-- Each balance is less than r in magnitude.
abbrev pub IsBalancedWithin : ℕ → ℕ → CellFlows → Type 0
IsBalancedWithin n r f = (i : ℕ) → i < n → (neg_ℤ (pos r) <ℤ balance n f i) × (balance n f i <ℤ pos r)

-- Heads l at which each cell gains at least r, and u at which each loses at least r, enclose all heads h at which each balance
-- is less than r in magnitude: so every solution that is comparable with both, and whatever a solver stops at that near to one.
abbrev pub SignsEnclose : Type 0
SignsEnclose = (n r : ℕ) (l h u : ℕ → ℤ) (at_l at_h at_u : CellFlows) → AreComparable n l h at_l at_h → AreComparable n h u at_h at_u →
    ((i : ℕ) → i < n → pos r ≤ℤ balance n at_l i) → ((i : ℕ) → i < n → balance n at_u i ≤ℤ neg_ℤ (pos r)) →
    IsBalancedWithin n r at_h → (i : ℕ) → i < n → (l i ≤ℤ h i) × (h i ≤ℤ u i)
