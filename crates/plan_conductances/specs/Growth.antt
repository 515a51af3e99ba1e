-- Conductances grow with HK (TM 6-A16, chapter 5, LPF with harmonic means).
use Rattle.std.specs.Prelude.{◌≡◌, ℕ, ◌+◌, ◌<◌, true, List}
use Rattle.decimal_input.specs.{declared.dec.Dec.Dec, size, Ratios.AtMost}
use Rattle.model_types.specs.{IsModel, cell_count, conductance, dec_at, hk_at, is_active, stride, declared.face.Axis.Axis, declared.model.FlowModel.FlowModel}

-- In no active cell of the model is HK above what the array has there.
abbrev pub HasAtMost : FlowModel → List Dec → Type 0
HasAtMost m hk = (c : ℕ) → c < cell_count m.grid → is_active m c ≡ true → AtMost (size (hk_at m c)) (size (dec_at hk c))

-- With that array in place of HK no face between two active cells conducts less.
abbrev pub ConductancesGrow : Type 0
ConductancesGrow =
    (m : FlowModel) (hk : List Dec) → IsModel m → HasAtMost m hk → (axis : Axis) (a : ℕ) → a + stride m.grid axis < cell_count m.grid →
    is_active m a ≡ true → is_active m (a + stride m.grid axis) ≡ true → AtMost (conductance m axis a) (conductance (record m { hk = hk }) axis a)
