-- The fractions of a step have a common denominator.
use Rattle.cell_balance.proofs.Common.{◌≡◌, ℕ, ◌*◌, ◌<◌, refl, ap, sym, ◌∙◌, arith, ℤ, pos, ◌*ℤ◌, List, [], ◌∷◌, AllZip, mul-pos, Ratio, Fraction, den, IsOver, IsShare, mul_assoc, ExactFlow}
use Rattle.cell_balance.proofs.Common.{ExactLink, ExactFixed, ExactRiver, ExactDrain, ExactEvap, ExactCell}
use Rattle.decimal_input.specs.Ratios.{den as ratio_den}

-- d goes into n
abbrev pub Goes : ℕ → ℕ → Type 0
Goes d n = (q : ℕ) × (n ≡ d * q)

pub Goes-first : (a b : ℕ) → Goes a (a * b)
Goes-first a b = (b, refl)

pub Goes-second : (a b : ℕ) → Goes b (a * b)
Goes-second a b = (a, omega arith)

pub Goes-trans : (a b c : ℕ) → Goes a b → Goes b c → Goes a c
Goes-trans a b c (q, e) (r, f) = (q * r, f ∙ ap (λ (z : ℕ). z * r) e ∙ (omega arith))

-- a conductance and a head over multiples of a denominator that theirs goes into
pub share_over : (d a : ℕ) (r : Ratio) → Goes (ratio_den r) d → (n : ℕ) × IsShare (d * a) r n
share_over d a r (q, e) = (r.num * q * a, record { is = ap (λ (z : ℕ). r.num * (z * a)) e ∙ (omega arith) })

pub fraction_over : (d b : ℕ) (f : Fraction) → Goes (den f) d → (z : ℤ) × IsOver (d * b) f z
fraction_over d b f (q, e) = (f.num *ℤ pos (q * b), record { is = ap (λ (z : ℕ). f.num *ℤ pos z) (ap (λ (z : ℕ). z * b) e ∙ (omega arith)) ∙ back (q * b) (den f) })
  where
    back : (x y : ℕ) → f.num *ℤ pos (x * y) ≡ (f.num *ℤ pos x) *ℤ pos y
    back x y = sym (mul_assoc f.num (pos x) (pos y))

pub left_goes : (a b d : ℕ) → Goes (a * b) d → Goes a d
left_goes a b d g = Goes-trans a (a * b) d (Goes-first a b) g

pub right_goes : (a b d : ℕ) → Goes (a * b) d → Goes b d
right_goes a b d g = Goes-trans b (a * b) d (Goes-second a b) g

-- the product of an entry's denominators
abbrev pub flow_den : ExactFlow → ℕ
flow_den x = den x.flow

abbrev pub link_den : ExactLink → ℕ
link_den x = ratio_den x.conductance

abbrev pub entry_den : Ratio → Fraction → Fraction → ℕ
entry_den r top foot = ratio_den r * (den top * den foot)

abbrev pub fixed_den : ExactFixed → ℕ
fixed_den x = entry_den x.conductance x.head x.head

abbrev pub river_den : ExactRiver → ℕ
river_den x = entry_den x.conductance x.stage x.bottom

abbrev pub drain_den : ExactDrain → ℕ
drain_den x = entry_den x.conductance x.elevation x.elevation

abbrev pub evap_den : ExactEvap → ℕ
evap_den x = entry_den x.conductance x.surface x.extinction

-- the product of the denominators of a list, of a cell's entries, and of a step's cells
abbrev pub product : {X : Type 0} → (X → ℕ) → List X → ℕ
product f [] = 1
product f (x ∷ xs) = f x * product f xs

abbrev pub cell_den : ExactCell → ℕ
cell_den c = product flow_den c.flows * (product link_den c.links * (product fixed_den c.fixed * (product river_den c.rivers * (product drain_den c.drains * product evap_den c.evaps))))

pub some_product : {X : Type 0} (f : X → ℕ) → ((x : X) → 0 < f x) → (xs : List X) → 0 < product f xs
some_product f some [] = omega arith
some_product f some (x ∷ xs) = mul-pos (some x) (some_product f some xs)

pub some_entry : (r : Ratio) (top foot : Fraction) → 0 < entry_den r top foot
some_entry r top foot = mul-pos (omega arith) (mul-pos (omega arith) (omega arith))

some_cell : (c : ExactCell) → 0 < cell_den c
some_cell c = grind (arith, mul-pos, some_product, some_entry)

-- where each element has one that it is related to, so has a list, over a number that the product of its denominators goes into
pub all_over_product : {X Y : Type 0} (R : X → Y → Type 0) (f : X → ℕ) (d : ℕ) → ((x : X) → Goes (f x) d → (y : Y) × R x y) → (xs : List X) → Goes (product f xs) d → (ys : List Y) × AllZip R xs ys
all_over_product R f d each [] g = ([], tt)
all_over_product R f d each (x ∷ xs) g =
    let (y, r) = each x (left_goes (f x) (product f xs) d g) in
    let (ys, h) = all_over_product R f d each xs (right_goes (f x) (product f xs) d g) in
    (y ∷ ys, (r, h))

-- a cell and a step have a common denominator
pub cell_common : (c : ExactCell) → (d : ℕ) × (0 < d) × Goes (cell_den c) d
cell_common c = (cell_den c, some_cell c, (1, omega arith))

pub step_common : (e : List ExactCell) → (d : ℕ) × (0 < d) × Goes (product cell_den e) d
step_common e = (product cell_den e, some_product cell_den some_cell e, (1, omega arith))
