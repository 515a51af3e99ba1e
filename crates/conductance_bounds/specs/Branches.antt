-- The formulas of the bounds, one line each, over the numbers of single calls; and beside each the exact value that
-- it bounds, in the manual's form (TM 6-A16, chapters 5 and 6).
use Rattle.std.specs.Prelude.{ℕ, ◌-◌, ◌==◌, Bool, cond, Option, Some, None}
use Rattle.decimal_input.specs.{declared.dec.Dec.Dec, number, size, Ratio, over, Fraction, as_fraction, Ratios.plus, Ratios.times, Fractions.times as product}
use Rattle.scaled_decimal.specs.declared.decimal.Sd.{Sd}
use Rattle.model_types.specs.{one, two, half, in_a_row, power, geometric}
use Rattle.conductance_bounds.specs.{declared.horizontal.Half.Half, declared.horizontal.ColHalf.ColHalf, declared.vertical.VertHalf.VertHalf}
use Rattle.conductance_bounds.specs.{declared.vertical.Bed.Bed, Terms.Term, Terms.Term.Number, Terms.Term.Within, Terms.Term.Sum, Terms.Term.Product}
use Rattle.conductance_bounds.specs.{Terms.Term.Quotient, Parts.sum_term, Parts.power_term}

abbrev pub twice : Term → Term
twice t = Sum t t

-- half of a horizontal branch: length over twice the width, times the conductivity and the thickness
abbrev pub half_term : Ratio → Ratio → Term → Term → Term
half_term d w k t = Quotient (Number d) (Product (twice (Number w)) (Product k t))

-- a horizontal branch: one over the sum of its halves
abbrev pub row_term : Ratio → Ratio → Term → Term → Ratio → Term → Term → Term
row_term w d₁ k₁ t₁ d₂ k₂ t₂ = Quotient (Number one) (Sum (half_term d₁ w k₁ t₁) (half_term d₂ w k₂ t₂))

-- the area of a cell
abbrev pub area_formula : Ratio → Ratio → Term
area_formula delr delc = Product (Number delr) (Number delc)

-- VK: VKA, or HK / VKA where VKA is a ratio
abbrev pub vertical_k_term : Bool → Ratio → Ratio → Term
vertical_k_term ratio hk vka = cond ratio (Quotient (Number hk) (Number vka)) (Number vka)

abbrev pub vertical_k : Bool → Ratio → Ratio → Ratio
vertical_k ratio hk vka = cond ratio (over hk vka) vka

-- half of a vertical branch: the thickness over twice the conductivity
abbrev pub vertical_term : Term → Term → Term
vertical_term t k = Quotient t (twice k)

-- the resistances of a vertical branch: a half, the bed where there is one, a half
abbrev pub resistance_sum : Bool → Term → Term → Term → Term
resistance_sum bare half₁ bed half₂ = cond bare (Sum half₁ half₂) (Sum (Sum half₁ bed) half₂)

-- SS, times the thickness where there is one
abbrev pub storativity_term : Ratio → Option Term → Term
storativity_term ss None = Number ss
storativity_term ss (Some t) = Product (Number ss) t

-- storage over the step's length
abbrev pub storage_formula : Term → Term → Term → Ratio → Term → Term
storage_formula storativity area sum perlen power = Quotient (Product (Product storativity area) sum) (Product (Number perlen) power)

abbrev pub recharge_formula : Ratio → Ratio → Ratio → Term
recharge_formula rate delr delc = Product (Product (Number rate) (Number delr)) (Number delc)

abbrev pub evap_formula : Ratio → Ratio → Ratio → Ratio → Term
evap_formula rate delr delc depth = Quotient (Product (Number rate) (area_formula delr delc)) (Number depth)

-- The formula of a single call, for the exact thicknesses f and g of the two cells.
abbrev pub row_of : Half → Half → Dec → Ratio → Ratio → Term
row_of a b width f g =
    row_term (size width) (size a.along) (Number (size a.hk)) (Within a.thick_lo a.thick_hi f) (size b.along)
    (Number (size b.hk)) (Within b.thick_lo b.thick_hi g)

-- the conductance along a row: two halves with HK in series
abbrev pub row_exact : Half → Half → Dec → Ratio → Ratio → Ratio
row_exact a b width f g = in_a_row (half (size a.along) (size width) (size a.hk) f) (half (size b.along) (size width) (size b.hk) g)

abbrev pub column_k : ColHalf → Term
column_k a = Product (Number (size a.hk)) (Number (size a.hani))

abbrev pub column_of : ColHalf → ColHalf → Dec → Ratio → Ratio → Term
column_of a b width f g =
    row_term (size width) (size a.along) (column_k a) (Within a.thick_lo a.thick_hi f) (size b.along) (column_k b)
    (Within b.thick_lo b.thick_hi g)

-- the conductance along a column: two halves with HK * HANI in series
abbrev pub column_exact : ColHalf → ColHalf → Dec → Ratio → Ratio → Ratio
column_exact a b width f g =
    in_a_row (half (size a.along) (size width) (times (size a.hk) (size a.hani)) f)
    (half (size b.along) (size width) (times (size b.hk) (size b.hani)) g)

abbrev pub vertical_half_of : VertHalf → Ratio → Term
vertical_half_of a f = vertical_term (Within a.thick_lo a.thick_hi f) (vertical_k_term a.ratio (size a.hk) (size a.vka))

abbrev pub bed_of : Bed → Ratio → Term
bed_of bed h = Quotient (Within bed.thick_lo bed.thick_hi h) (Number (size bed.vkcb))

-- with the bed's exact thickness h; a thickness of 0 means no bed
abbrev pub vertical_of : VertHalf → VertHalf → Bed → Dec → Dec → Ratio → Ratio → Ratio → Term
vertical_of a b bed delr delc f g h =
    Quotient (area_formula (size delr) (size delc))
    (resistance_sum (bed.thick_lo.m == 0) (vertical_half_of a f) (bed_of bed h) (vertical_half_of b g))

abbrev pub vertical_half_exact : VertHalf → Ratio → Ratio
vertical_half_exact a f = over (over f two) (vertical_k a.ratio (size a.hk) (size a.vka))

-- the vertical conductance: DELR * DELC / ((THICK / 2) / VK + B / VKCB + (THICK / 2) / VK)
abbrev pub vertical_exact : VertHalf → VertHalf → Bed → Dec → Dec → Ratio → Ratio → Ratio → Ratio
vertical_exact a b bed delr delc f g h =
    over (times (size delr) (size delc))
    (plus (plus (vertical_half_exact a f) (over h (size bed.vkcb))) (vertical_half_exact b g))

-- SS times the exact thickness f, or SS alone where no thickness is given
abbrev pub thickness_of : Option (Sd × Sd) → Ratio → Option Term
thickness_of None f = None
thickness_of (Some (lo, hi)) f = Some (Within lo hi f)

abbrev pub storativity_exact : Dec → Option (Sd × Sd) → Ratio → Ratio
storativity_exact ss None f = size ss
storativity_exact ss (Some (lo, hi)) f = times (size ss) f

abbrev pub storage_of : Dec → Option (Sd × Sd) → Dec → Dec → Ratio → ℕ → ℕ → Dec → Ratio → Term
storage_of ss thick delr delc t steps n perlen f =
    storage_formula (storativity_term (size ss) (thickness_of thick f)) (area_formula (size delr) (size delc))
    (sum_term t (steps - 1)) (size perlen) (power_term t (n - 1))

-- the storage of step n: SC * G(NSTP) / (PERLEN * T^(n-1))
abbrev pub storage_exact : Dec → Option (Sd × Sd) → Dec → Dec → Ratio → ℕ → ℕ → Dec → Ratio → Ratio
storage_exact ss thick delr delc t steps n perlen f =
    over (times (times (times (storativity_exact ss thick f) (size delr)) (size delc)) (geometric t steps))
    (times (size perlen) (power t (n - 1)))

-- recharge as a flow: RECH * DELR * DELC
abbrev pub recharge_exact : Dec → Dec → Dec → Fraction
recharge_exact rate delr delc = product (number rate) (as_fraction (times (size delr) (size delc)))

-- evapotranspiration as a conductance: EVTR * DELR * DELC / EXDP
abbrev pub evap_exact : Dec → Dec → Dec → Dec → Ratio
evap_exact rate depth delr delc = over (times (size rate) (times (size delr) (size delc))) (size depth)
