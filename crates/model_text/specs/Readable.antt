-- What is asked of IBOUND, STRT, recharge and evapotranspiration, so that a file can say them.
use Rattle.std.specs.Prelude.{◌≡◌, ℤ, pos, true, List, [], ◌∷◌, All, length}
use Rattle.model_types.specs.{declared.model.FlowModel.FlowModel, declared.period.Period.Period, cell_count}
use Rattle.period_arrays.specs.{is_option, no_area, HasArrays, ArrayKind, with_area}
use Rattle.array_text.specs.{IsShort}
use Rattle.decimal_input.specs.{IsDec}

-- RCH or EVT: its option is from 1 to 3, and each stress period has its arrays, which pass their test
pub record HasPackage (kind : ArrayKind) (option : ℤ) (m : FlowModel) : Type 0 where
  pub active : is_option option ≡ true
  pub arrays : All (λ p. HasArrays kind m.grid m.ibound option (kind.area p.stresses)) m.periods

-- it isn't there: its option is 0, and no stress period has an array of it
pub record LacksPackage (kind : ArrayKind) (option : ℤ) (m : FlowModel) : Type 0 where
  pub off : option ≡ pos 0
  pub none : All (λ p. kind.area p.stresses ≡ no_area) m.periods

-- the periods with the arrays of these other ones
abbrev pub with_areas : ArrayKind → List Period → List Period → List Period
with_areas kind [] qs = []
with_areas kind (p ∷ ps) [] = []
with_areas kind (p ∷ ps) (q ∷ qs) = with_area kind p (kind.area q.stresses) ∷ with_areas kind ps qs

-- BAS6: IBOUND and STRT for each cell
pub record IsBasic (m : FlowModel) : Type 0 where
  pub ibound : (length m.ibound ≡ cell_count m.grid) × All IsShort m.ibound
  pub strt : (length m.strt ≡ cell_count m.grid) × All IsDec m.strt
