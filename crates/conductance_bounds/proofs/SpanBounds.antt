-- The decimals of a thickness contain it.
use Rattle.conductance_bounds.proofs.Common.{◌≡◌, ℕ, zero, suc, ◌*◌, ◌≤◌, ◌<◌, ◌^◌, arith, ℤ, pos, negsuc, neg_ℤ, ◌-ℤ◌, ◌*ℤ◌, ◌≤ℤ◌, ◌<ℤ◌, mul-pos, refl, ◌-◌, inl, inr, subst, sym, ap, ◌+ℤ◌}
use Rattle.conductance_bounds.proofs.Common.{unsigned_abs, ints, Dec, number, Fraction, ratio, scaled_ratio, size, Ratio, den, Same, plus, times, mul_mono_right, diffs, as_diff, same_diff}
use Rattle.conductance_bounds.proofs.Common.{AtMost-trans, Same-trans, Same-sym, Same-AtMost, Same-back, num_times, den_times, num_plus, den_plus, num_scaled, den_scaled, scaled_shift, gap, IsThick}
use Rattle.conductance_bounds.proofs.Common.{one, number_one, IsBetween, AreBounds, Number, Side, Lower, Upper, bound, rounded_decimal, span, units_at, sum_term, power_term, Span, cases_lt, pow-suc}
use Rattle.conductance_bounds.proofs.Common.{Sd, IsSd, value, Same-self, times-Same, plus-Same, ◌∙◌, is_rounded, one_rounded}
use Rattle.conductance_bounds.proofs.Units.{units_ceiling, units_floor}
use Rattle.decimal_input.specs.Fractions.{den as denominator}

ring_left : (a b x y : ℤ) → (a -ℤ b) *ℤ (x *ℤ y) ≡ (a *ℤ x) *ℤ y -ℤ (b *ℤ y) *ℤ x
ring_left a b x y = rw (as_diff a, as_diff b, as_diff x, as_diff y) (simp diffs (same_diff _ _ _ _ (omega arith)))

ring_right : (t b x y p : ℤ) → (t *ℤ y -ℤ b *ℤ x) *ℤ p ≡ (t *ℤ p) *ℤ y -ℤ (b *ℤ p) *ℤ x
ring_right t b x y p = rw (as_diff t, as_diff b, as_diff x, as_diff y, as_diff p) (simp diffs (same_diff _ _ _ _ (omega arith)))

-- a difference of floor and ceiling, and that of the numbers
pub below_gap : (a b t c : ℤ) (x y p : ℕ) → (a *ℤ pos x) ≤ℤ (t *ℤ pos p) → (c *ℤ pos p) ≤ℤ (b *ℤ pos y) → ((a -ℤ b) *ℤ (pos x *ℤ pos y)) ≤ℤ ((t *ℤ pos y -ℤ c *ℤ pos x) *ℤ pos p)
below_gap a b t c x y p h k = omega (arith, ints, ring_left a b (pos x) (pos y), ring_right t c (pos x) (pos y) (pos p), mul_mono_right y _ _ h, mul_mono_right x _ _ k)

pub above_gap : (a b t c : ℤ) (x y p : ℕ) → (t *ℤ pos p) ≤ℤ (a *ℤ pos x) → (b *ℤ pos y) ≤ℤ (c *ℤ pos p) → ((t *ℤ pos y -ℤ c *ℤ pos x) *ℤ pos p) ≤ℤ ((a -ℤ b) *ℤ (pos x *ℤ pos y))
above_gap a b t c x y p h k = omega (arith, ints, ring_left a b (pos x) (pos y), ring_right t c (pos x) (pos y) (pos p), mul_mono_right y _ _ h, mul_mono_right x _ _ k)

abs_low : (z g : ℤ) (x y p : ℕ) → pos 0 ≤ℤ z → pos 0 ≤ℤ g → (z *ℤ (pos x *ℤ pos y)) ≤ℤ (g *ℤ pos p) → unsigned_abs z * (x * y) ≤ unsigned_abs g * p
abs_low (pos n) (pos k) x y p a b h = omega (arith, ints, h)
abs_low (pos n) (negsuc k) x y p a b h = absurd (omega (arith, ints, b))
abs_low (negsuc n) g x y p a b h = absurd (omega (arith, ints, a))

abs_high : (z g : ℤ) (x y p : ℕ) → pos 0 ≤ℤ z → pos 0 ≤ℤ g → (g *ℤ pos p) ≤ℤ (z *ℤ (pos x *ℤ pos y)) → unsigned_abs g * p ≤ unsigned_abs z * (x * y)
abs_high (pos n) (pos k) x y p a b h = omega (arith, ints, h)
abs_high (pos n) (negsuc k) x y p a b h = absurd (omega (arith, ints, b))
abs_high (negsuc n) g x y p a b h = absurd (omega (arith, ints, a))

-- what is more than a positive number of units is positive
above_zero : (z g : ℤ) (x y p : ℕ) → pos 0 <ℤ z → 0 < x → 0 < y → (z *ℤ (pos x *ℤ pos y)) ≤ℤ (g *ℤ pos p) → pos 0 <ℤ g
above_zero (pos (suc n)) (pos (suc k)) x y p a hx hy h = omega (arith, ints)
above_zero (pos (suc n)) (pos zero) x y p a hx hy h = absurd (omega (arith, ints, h, mul-pos {m = suc n} (omega arith) (mul-pos hx hy)))
above_zero (pos (suc n)) (negsuc k) x y p a hx hy h = absurd (omega (arith, ints, h, mul-pos {m = suc n} (omega arith) (mul-pos hx hy)))
above_zero (pos zero) g x y p a hx hy h = absurd (omega (arith, ints, a))
above_zero (negsuc n) g x y p a hx hy h = absurd (omega (arith, ints, a))

-- T - B over both denominators
abbrev gap_num : Fraction → Fraction → ℤ
gap_num f g = f.num *ℤ pos (denominator g) -ℤ g.num *ℤ pos (denominator f)

den_gap : (f g : Fraction) → den (gap f g) ≡ denominator f * denominator g
den_gap f g = omega arith

pub gap_positive : (top bottom : Dec) → IsThick top bottom → pos 0 <ℤ gap_num (number top) (number bottom)
gap_positive top bottom k =
    above_zero (k.floor -ℤ k.ceiling) (gap_num (number top) (number bottom)) (denominator (number top)) (denominator (number bottom)) (10 ^ 18)
    (omega (arith, ints, k.room)) (omega arith) (omega arith)
    (below_gap k.floor k.ceiling (number top).num (number bottom).num (denominator (number top)) (denominator (number bottom)) (10 ^ 18) k.is_floor.at_most k.is_ceiling.at_least)

pub abs_positive : (z : ℤ) → pos 0 <ℤ z → 0 < unsigned_abs z
abs_positive (pos n) h = omega (arith, ints, h)
abs_positive (negsuc n) h = absurd (omega (arith, ints, h))

-- an active cell's thickness is above 0
pub thick_positive : (top bottom : Dec) → IsThick top bottom → 0 < (gap (number top) (number bottom)).num
thick_positive top bottom k = abs_positive (gap_num (number top) (number bottom)) (gap_positive top bottom k)

-- and its two decimals contain it
pub span_between : (top bottom : Dec) → IsThick top bottom → units_at Upper bottom 18 ≤ℤ units_at Lower top 18 →
    units_at Lower bottom 18 ≤ℤ units_at Upper top 18 → IsBetween (span top bottom).lo (span top bottom).hi (gap (number top) (number bottom))
unfolding span
span_between top bottom thick order wide =
    let a = units_at Lower top 18 in
    let b = units_at Upper top 18 in
    let c = units_at Lower bottom 18 in
    let d = units_at Upper bottom 18 in
    let x = denominator (number top) in
    let y = denominator (number bottom) in
    let g = gap_positive top bottom thick in
    let low = abs_low (a -ℤ d) (gap_num (number top) (number bottom)) x y (10 ^ 18) (omega (arith, ints, order)) (omega (arith, ints, g))
    (below_gap a d (number top).num (number bottom).num x y (10 ^ 18) (units_floor top 18).at_most (units_ceiling bottom 18).at_least) in
    let high = abs_high (b -ℤ c) (gap_num (number top) (number bottom)) x y (10 ^ 18) (omega (arith, ints, wide)) (omega (arith, ints, g))
    (above_gap b c (number top).num (number bottom).num x y (10 ^ 18) (units_ceiling top 18).at_least (units_floor bottom 18).at_most) in
    record {
      lower = AtMost-trans (is_rounded Lower _).at_most
          (record {
            cross = rw (
              num_scaled (unsigned_abs (a -ℤ d)) (neg_ℤ (pos 18)),
              den_scaled (unsigned_abs (a -ℤ d)) (neg_ℤ (pos 18)),
              den_gap (number top) (number bottom),
            ) (omega (arith, low));
          });
      upper = AtMost-trans (record {
        cross = rw (
          num_scaled (unsigned_abs (b -ℤ c)) (neg_ℤ (pos 18)),
          den_scaled (unsigned_abs (b -ℤ c)) (neg_ℤ (pos 18)),
          den_gap (number top) (number bottom),
        ) (omega (arith, high));
      }) (is_rounded Upper _).at_least;
    }

-- The number 1.
pub unity_is : Same (scaled_ratio (10 ^ 17) (negsuc 16)) one
unfolding ratio
unity_is = record { cross = rw (num_scaled, den_scaled) refl }

-- Steps of one length: the sums are the whole numbers, and each rounding is exact.
-- what is a decimal is rounded to itself
pub exact_rounded : (side : Side) (x : Sd) (f : Ratio) → IsSd x → Same (value x) f → x ≡ rounded_decimal side f
exact_rounded Lower x f d same = one_rounded Lower x f (record { decimal = d; at_most = Same-AtMost same; greatest = (λ y e h. AtMost-trans h (Same-back same)) })
exact_rounded Upper x f d same = one_rounded Upper x f (record { decimal = d; at_least = Same-back same; least = (λ y e h. AtMost-trans (Same-AtMost same) h) })

-- a whole number below 10 ^ 18 is a decimal
pub record IsDecimal (f : Ratio) : Type 0 where
  pub at : Sd
  pub decimal : IsSd at
  pub same : Same (value at) f

shift : (m : ℕ) (e : ℤ) → Same (scaled_ratio (m * 10) (e -ℤ pos 1)) (scaled_ratio m e)
shift m e = subst (λ (k : ℤ). Same (scaled_ratio (m * 10) (e -ℤ pos 1)) (scaled_ratio m k)) (let q : (e -ℤ pos 1) +ℤ pos 1 ≡ e = omega (arith, ints) in q) (scaled_shift m 1 (e -ℤ pos 1))

padded : (j m : ℕ) (e : ℤ) → m < 10 ^ 18 → 10 ^ 17 ≤ m * 10 ^ j → IsDecimal (scaled_ratio m e)
padded zero m e few big = record { at = record { m = m; e = e }; decimal = inl (omega (arith, big), few); same = Same-self (scaled_ratio m e) }
padded (suc j) m e few big = elim (cases_lt m (10 ^ 17)) [
  | inl lt ↦
      let q : m * 10 ^ suc j ≡ m * (10 ^ j * 10) = ap (λ (z : ℕ). m * z) (pow-suc 10 j) in
      let r = padded j (m * 10) (e -ℤ pos 1) (omega (arith, lt)) (omega (arith, big, q)) in
      record { at = r.at; decimal = r.decimal; same = Same-trans r.same (shift m e) }
  | inr le ↦ record { at = record { m = m; e = e }; decimal = inl (le, few); same = Same-self (scaled_ratio m e) }
]

pub whole_is : (n : ℕ) → Same (scaled_ratio n (pos 0)) (ratio n 1)
unfolding ratio
whole_is n = record { cross = rw (num_scaled, den_scaled) (omega arith) }

whole_decimal : (n : ℕ) → 0 < n → n < 10 ^ 18 → IsDecimal (ratio n 1)
whole_decimal n some few = let r = padded 17 n (pos 0) few (omega (arith, some)) in record { at = r.at; decimal = r.decimal; same = Same-trans r.same (whole_is n) }

times_one : (n : ℕ) → Same (times (ratio n 1) one) (ratio n 1)
unfolding ratio
times_one n = record { cross = rw (num_times, den_times) (omega arith) }

plus_one : (n : ℕ) → Same (plus (ratio n 1) one) (ratio (suc n) 1)
unfolding ratio
plus_one n = record { cross = rw (num_plus, den_plus) (omega arith) }

-- 1 as a decimal
abbrev unity : Sd
unity = record { m = 10 ^ 17; e = negsuc 16 }

unity_decimal : IsSd unity
unity_decimal = inl (omega arith, omega arith)

unity_input : Same (value unity) (size number_one)
unity_input = Same-trans unity_is (Same-sym (whole_is 1))

-- the two spellings of 1 in the formulas
one_is : (side : Side) → unity ≡ rounded_decimal side one
one_is side = exact_rounded side unity one unity_decimal unity_is

input_is : (side : Side) → unity ≡ rounded_decimal side (size number_one)
input_is side = exact_rounded side unity (size number_one) unity_decimal unity_input

equal_sum : (side : Side) (n : ℕ) (x : Sd) → n < 10 ^ 17 → IsSd x → Same (value x) (ratio (suc n) 1) → x ≡ bound (sum_term (size number_one) n) side
unfolding sum_term bound
equal_sum side zero x few d same = exact_rounded side x one d same
equal_sum side (suc n) x few d same =
    let y = whole_decimal (suc n) (omega arith) (omega (arith, few)) in
    let before = equal_sum side n y.at (omega (arith, few)) y.decimal y.same in
    let product : Same (value y.at) (times (value y.at) (value unity)) = Same-trans y.same (Same-sym (Same-trans (times-Same y.same unity_is) (times_one (suc n)))) in
    let sum : Same (value x) (plus (value y.at) (value unity)) = Same-trans same (Same-sym (Same-trans (plus-Same y.same unity_is) (plus_one (suc n)))) in
    let factor = exact_rounded side y.at _ y.decimal product ∙ (λ i. rounded_decimal side (times (value (before i)) (value (input_is side i)))) in
    exact_rounded side x _ d sum ∙ (λ i. rounded_decimal side (plus (value (factor i)) (value (one_is side i))))

equal_power : (side : Side) (n : ℕ) → unity ≡ bound (power_term (size number_one) n) side
unfolding power_term bound
equal_power side zero = one_is side
equal_power side (suc n) =
    let product : Same (value unity) (times (value unity) (value unity)) = Same-trans unity_is (Same-sym (Same-trans (times-Same unity_is unity_is) (times_one 1))) in
    exact_rounded side unity _ unity_decimal product ∙ (λ i. rounded_decimal side (times (value (equal_power side n i)) (value (input_is side i))))

pub equal_sums : (t : Dec) (n : ℕ) (x : Sd) → t ≡ number_one → 1 ≤ n → n ≤ 100000 → IsSd x → Same (value x) (scaled_ratio n (pos 0)) → AreBounds (sum_term (size t) (n - 1)) (record { lo = x; hi = x })
equal_sums t n x e some few d same =
    let whole : Same (value x) (ratio (suc (n - 1)) 1) = subst (λ k. Same (value x) (ratio k 1)) (let q : n ≡ suc (n - 1) = omega (arith, some) in q) (Same-trans same (whole_is n)) in
    subst (λ k. AreBounds (sum_term (size k) (n - 1)) (record { lo = x; hi = x })) (sym e)
    (record { lower = equal_sum Lower (n - 1) x (omega (arith, few)) d whole; upper = equal_sum Upper (n - 1) x (omega (arith, few)) d whole })

pub one_bounds : AreBounds (Number one) (record { lo = unity; hi = unity })
unfolding bound
one_bounds = record { lower = one_is Lower; upper = one_is Upper }

pub equal_powers : (t : Dec) (n : ℕ) (x : Span) → t ≡ number_one → AreBounds (Number one) x → AreBounds (power_term (size t) (n - 1)) x
unfolding bound
equal_powers t n x e p =
    subst (λ k. AreBounds (power_term (size k) (n - 1)) x) (sym e) (record {
      lower = p.lower ∙ sym (one_is Lower) ∙ equal_power Lower (n - 1);
      upper =
          p.upper ∙ sym (one_is Upper) ∙ equal_power Upper (n - 1);
    })
