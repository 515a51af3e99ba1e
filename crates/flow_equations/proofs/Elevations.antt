-- The thicknesses of a cell, of the bed below it and of the next cell add up to the space that they fill.
use Rattle.flow_equations.proofs.Common.{◌≡◌, ℕ, ◌+◌, ◌*◌, ◌-◌, false, cond, refl, sym, ap, ◌∙◌, subst, arith, ℤ, pos, ◌-ℤ◌, ◌*ℤ◌, ◌≤ℤ◌, nat_lt, unsigned_abs, ints, Dec, number, plus, Same, Fraction}
use Rattle.flow_equations.proofs.Common.{den, AtMost-trans, FlowModel, layer_size, gap, dec_at, thickness, bed_thickness, top_at, bottom_at, lowest, LayersFillTheSpace}
use borrow.Author.Differences.{up, down}
use Rattle.decimal_input.specs.Fractions.{AtMost}
use Rattle.flow_equations.proofs.Downwards.{IsValue, value_plus, same_by}

-- what lies between two whole numbers, with what is below 0 on the other side
between : (a b : ℤ) → b ≤ℤ a → unsigned_abs (a -ℤ b) + (down a + up b) ≡ up a + down b
between a b h = omega (arith, ints)

products : (x y : ℤ) (d e : ℕ) → up (x *ℤ pos e) + down x * e ≡ up x * e + down (x *ℤ pos e)
products x y d e = omega (arith, ints)

-- the gap of two fractions, without differences
gap_of : (f g : Fraction) → AtMost g f → (gap f g).num + (down f.num * den g + up g.num * den f) ≡ up f.num * den g + down g.num * den f
gap_of f g h = grind (arith, products, between)

value_gap : (f g : Fraction) → IsValue (gap f g) (gap f g).num (den f * den g)
value_gap f g = record { num = refl; bottom = omega arith }

-- three gaps that follow one another, over one denominator
sum_up : (n₁₂ n₂₃ n₃₄ n₁₄ : ℕ) (p₁ q₁ d₁ p₂ q₂ d₂ p₃ q₃ d₃ p₄ q₄ d₄ : ℕ) →
    n₁₂ + (q₁ * d₂ + p₂ * d₁) ≡ p₁ * d₂ + q₂ * d₁ →
    n₂₃ + (q₂ * d₃ + p₃ * d₂) ≡ p₂ * d₃ + q₃ * d₂ →
    n₃₄ + (q₃ * d₄ + p₄ * d₃) ≡ p₃ * d₄ + q₄ * d₃ →
    n₁₄ + (q₁ * d₄ + p₄ * d₁) ≡ p₁ * d₄ + q₄ * d₁ →
    n₁₄ * (((d₁ * d₂) * (d₂ * d₃)) * (d₃ * d₄)) ≡ ((n₁₂ * (d₂ * d₃) + n₂₃ * (d₁ * d₂)) * (d₃ * d₄) + n₃₄ * ((d₁ * d₂) * (d₂ * d₃))) * (d₁ * d₄)
sum_up n₁₂ n₂₃ n₃₄ n₁₄ p₁ q₁ d₁ p₂ q₂ d₂ p₃ q₃ d₃ p₄ q₄ d₄ a b c e =
    let a' = ap (λ z. z * ((d₂ * d₃) * (d₃ * d₄) * (d₁ * d₄))) a in
    let b' = ap (λ z. z * ((d₁ * d₂) * (d₃ * d₄) * (d₁ * d₄))) b in
    let c' = ap (λ z. z * ((d₁ * d₂) * (d₂ * d₃) * (d₁ * d₄))) c in
    let e' = ap (λ z. z * (((d₁ * d₂) * (d₂ * d₃)) * (d₃ * d₄))) e in
    omega (arith, a', b', c', e')

falls : (f g h : Fraction) → AtMost g f → AtMost h g → AtMost h f
falls f g h p q = AtMost-trans q p

gaps_add_up : (f g h k : Fraction) → AtMost g f → AtMost h g → AtMost k h → Same (gap f k) (plus (plus (gap f g) (gap g h)) (gap h k))
gaps_add_up f g h k p q r =
    same_by (value_gap f k) (value_plus (value_plus (value_gap f g) (value_gap g h)) (value_gap h k))
    (sum_up _ _ _ _ (up f.num) (down f.num) (den f) (up g.num) (down g.num) (den g) (up h.num) (down h.num) (den h) (up k.num) (down k.num) (den k)
    (gap_of f g p) (gap_of g h q) (gap_of h k r) (gap_of f k (falls f h k (falls f g h p q) r)))

-- below a cell the next layer's top is the lowest elevation of the cell's own layer
top_below : (m : FlowModel) (a : ℕ) → top_at m (a + layer_size m.grid) ≡ lowest m a
top_below m a = ap (λ b. cond b (dec_at m.grid.top (a + layer_size m.grid)) (lowest m (a + layer_size m.grid - layer_size m.grid)))
    (past a (layer_size m.grid)) ∙ ap (lowest m) (back a (layer_size m.grid))
  where
    past : (a n : ℕ) → nat_lt (a + n) n ≡ false
    past a n = grind arith

    back : (a n : ℕ) → a + n - n ≡ a
    back a n = omega arith

pub layers_fill : (m : FlowModel) → LayersFillTheSpace m
layers_fill m a h =
    let b = a + layer_size m.grid in
    subst (λ (t : Dec). Same (gap (number (top_at m a)) (number (bottom_at m b))) (plus (plus (thickness m a) (bed_thickness m a)) (gap (number t) (number (bottom_at m b))))) (sym (top_below m a))
    (gaps_add_up (number (top_at m a)) (number (bottom_at m a)) (number (lowest m a)) (number (bottom_at m b)) h.cell h.bed h.below)
