-- What single calls require of their numbers.
use Rattle.std.specs.Prelude.{◌≡◌, ◌⊎◌, pos, Option, IfSome}
use Rattle.decimal_input.specs.{Ratio}
use Rattle.scaled_decimal.specs.declared.decimal.Sd.{Sd}
use Rattle.model_types.specs.{IsPositive}
use Rattle.conductance_bounds.specs.{declared.horizontal.Half.Half, declared.horizontal.ColHalf.ColHalf, declared.vertical.VertHalf.VertHalf}
use Rattle.conductance_bounds.specs.{declared.vertical.Bed.Bed, Terms.IsBetween, Formulas.AreThick}

pub record IsHalf (h : Half) : Type 0 where
  pub along : IsPositive h.along
  pub hk : IsPositive h.hk
  pub thick : AreThick h.thick_lo h.thick_hi

pub record IsColHalf (h : ColHalf) : Type 0 where
  pub along : IsPositive h.along
  pub hk : IsPositive h.hk
  pub hani : IsPositive h.hani
  pub thick : AreThick h.thick_lo h.thick_hi

pub record IsVertHalf (h : VertHalf) : Type 0 where
  pub hk : IsPositive h.hk
  pub vka : IsPositive h.vka
  pub thick : AreThick h.thick_lo h.thick_hi

-- zero as a decimal of 18 digits
abbrev pub IsZero : Sd → Type 0
IsZero x = (x.m ≡ 0) × (x.e ≡ pos 0)

-- no bed: both thicknesses are 0; or a bed with VKCB above 0
pub record IsRealBed (b : Bed) : Type 0 where
  pub vkcb : IsPositive b.vkcb
  pub thick : AreThick b.thick_lo b.thick_hi

abbrev pub IsBed : Bed → Type 0
IsBed b = (IsZero b.thick_lo × IsZero b.thick_hi) ⊎ IsRealBed b

-- the two decimals of a thickness, where there is one
abbrev pub IsThickness : Option (Sd × Sd) → Type 0
IsThickness t = IfSome t (λ x. AreThick x.0 x.1)

-- an exact thickness lies between them
abbrev pub LiesWithin : Option (Sd × Sd) → Ratio → Type 0
LiesWithin t f = IfSome t (λ x. IsBetween x.0 x.1 f)
