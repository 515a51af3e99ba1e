-- The order of tightness and the moves of either side.
use Rattle.std.specs.Prelude.{ℕ, ◌<◌, List, length, ℤ, pos, neg_ℤ, ◌≤ℤ◌, ◌≡◌, slice_index_or, All}
use Rattle.std.specs.Int.{int_max, int_min}
use Rattle.step_problem.specs.{declared.heads.Side.Side, declared.heads.Side.TheVariants.Low, declared.heads.Side.TheVariants.High, Entries.Entries, entries_at}
use Rattle.step_problem.specs.{balance, IsRelaxed, IsHead, no_bound, lower_at, upper_at, declared.heads.Bound.Bound}

-- Heads of a problem's cells, kept as one bound for each cell.
-- the head of a bound on one side
abbrev pub head_of : Side → Bound → ℤ
head_of Low word = word.low
head_of High word = word.high

-- the heads of one side, by cell
abbrev pub heads_on : Side → List Bound → ℕ → ℤ
heads_on side words c = head_of side (slice_index_or words c no_bound)

-- one bound for each cell, with heads in range
pub record AreWords (p : List Entries) (words : List Bound) : Type 0 where
  pub whole : length words ≡ length p
  pub low : (c : ℕ) → c < length p → IsHead (lower_at words c)
  pub high : (c : ℕ) → c < length p → IsHead (upper_at words c)

-- the head y is as tight as x: lower heads rise, upper heads sink
abbrev pub IsAsTight : Side → ℤ → ℤ → Type 0
IsAsTight Low x y = x ≤ℤ y
IsAsTight High x y = y ≤ℤ x

-- the tighter of two heads
abbrev pub tighter_of : Side → ℤ → ℤ → ℤ
tighter_of Low = int_max
tighter_of High = int_min

-- at this balance a cell may go further: not negative on the low side, not positive on the high side
abbrev pub LetsMove : Side → ℤ → Type 0
LetsMove Low b = pos 0 ≤ℤ b
LetsMove High b = b ≤ℤ pos 0

-- cell c may go as far as v
abbrev pub Moves : Side → List Entries → ℕ → ℤ → (ℕ → ℤ) → Type 0
Moves side p c v h = LetsMove side (balance side (entries_at p c) v h)

-- r is the raise value of cell c on the low side, its sink value on the high side
abbrev pub IsRelaxedOn : Side → List Entries → (ℕ → ℤ) → ℕ → ℤ → Type 0
IsRelaxedOn side p l c r = IsRelaxed (IsAsTight side) (Moves side p) (length p) l c r

-- a head, turned on the high side, so that each side moves upwards
abbrev pub turned_on : Side → ℤ → ℤ
turned_on Low v = v
turned_on High v = neg_ℤ v

-- no head of the new bounds is less tight than the old one
abbrev pub AreNoLooser : List Entries → List Bound → List Bound → Type 0
AreNoLooser p old new = (side : Side) (c : ℕ) → c < length p → IsAsTight side (heads_on side old c) (heads_on side new c)

abbrev pub other : Side → Side
other Low = High
other High = Low

-- Relaxed heads keep the order of the heads from which they are computed.
-- the heads k are nowhere below h, at cell c and at the other ends of its links
pub record AreNoLower (p : List Entries) (c : ℕ) (h k : ℕ → ℤ) : Type 0 where
  pub own : h c ≤ℤ k c
  pub others : All (λ x. h x.cell ≤ℤ k x.cell) (entries_at p c).links

abbrev pub RelaxedKeepOrder : Type 0
RelaxedKeepOrder = (side : Side) (p : List Entries) (c : ℕ) (h k : ℕ → ℤ) (r s : ℤ) → AreNoLower p c h k → IsRelaxedOn side p h c r →
    IsRelaxedOn side p k c s → r ≤ℤ s
