-- Conductances by the manual and the textbook (TM 6-A16, chapter 5).
use Rattle.std.specs.Prelude.{◌≡◌, ℕ, ◌<◌}
use Rattle.decimal_input.specs.{size, Ratio, over, Ratios.times, Ratios.AtMost, Ratios.Same}
use Rattle.model_types.specs.{declared.model.FlowModel.FlowModel, row_of, column_of, delr_at, delc_at, hk_at, hani_at, thickness, IsPositive, one, two}
use Rattle.model_types.specs.{in_a_row, row_conductance, column_conductance}

-- A branch is the same from both ends: between two cells of one row, and of one column.
pub record IsSameFromBothEnds (m : FlowModel) : Type 0 where
  pub row : (a b : ℕ) → row_of m.grid a ≡ row_of m.grid b → Same (row_conductance m a b) (row_conductance m b a)
  pub column : (a b : ℕ) → column_of m.grid a ≡ column_of m.grid b → Same (column_conductance m a b) (column_conductance m b a)

-- two cells of one row with the same positive widths, conductivity and thickness
pub record AreAlike (m : FlowModel) (a b : ℕ) : Type 0 where
  pub delr : delr_at m a ≡ delr_at m b
  pub hk : hk_at m a ≡ hk_at m b
  pub thickness_of : thickness m a ≡ thickness m b
  pub positive : IsPositive (delr_at m a) × IsPositive (delc_at m a) × IsPositive (hk_at m a) × (0 < (thickness m a).num)

-- Between two cells that are alike Darcy's law has one conductance: HK * THICK * DELC / DELR.
abbrev pub MeetsDarcy : FlowModel → Type 0
MeetsDarcy m =
    (a b : ℕ) → AreAlike m a b →
    Same (row_conductance m a b) (over (times (times (size (hk_at m a)) (thickness m a)) (size (delc_at m a)))
    (size (delr_at m a)))

-- two cells of one column with the same positive widths, conductivities and thickness
pub record AreAlikeInAColumn (m : FlowModel) (a b : ℕ) : Type 0 where
  pub delc : delc_at m a ≡ delc_at m b
  pub hk : hk_at m a ≡ hk_at m b
  pub hani : hani_at m a ≡ hani_at m b
  pub thickness_of : thickness m a ≡ thickness m b
  pub widths : IsPositive (delc_at m a) × IsPositive (delr_at m a)
  pub positive : IsPositive (hk_at m a) × IsPositive (hani_at m a) × (0 < (thickness m a).num)

-- Along columns the conductivity is HK * HANI: the conductance is HK * HANI * THICK * DELR / DELC.
abbrev pub MeetsDarcyAlongColumns : FlowModel → Type 0
MeetsDarcyAlongColumns m = (a b : ℕ) → AreAlikeInAColumn m a b →
    Same (column_conductance m a b)
    (over (times (times (times (size (hk_at m a)) (size (hani_at m a))) (thickness m a)) (size (delr_at m a))) (size (delc_at m a)))

-- Between square cells of unit conductivity and unit thickness it is 1.
abbrev pub HasUnitBranches : FlowModel → Type 0
HasUnitBranches m =
    (a b : ℕ) → AreAlike m a b → Same (size (delr_at m a)) (size (delc_at m a)) → Same (size (hk_at m a)) one →
    Same (thickness m a) one → Same (row_conductance m a b) one

-- Twice the conductance of two halves in series is their harmonic mean: it lies between the two halves' conductances, which are one over their resistances.
pub record IsBetweenHalves (r₁ r₂ : Ratio) : Type 0 where
  pub least : AtMost (over one r₂) (times two (in_a_row r₁ r₂))
  pub most : AtMost (times two (in_a_row r₁ r₂)) (over one r₁)

abbrev pub IsHarmonic : Type 0
IsHarmonic = (r₁ r₂ : Ratio) → 0 < r₁.num → AtMost r₁ r₂ → IsBetweenHalves r₁ r₂
