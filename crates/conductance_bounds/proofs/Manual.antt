-- The formulas of branches contain the manual's conductances: each formula's value is the manual's, and each of its leaves lies between its bounds.
use Rattle.conductance_bounds.proofs.Common.{◌≡◌, ℕ, ◌+◌, ◌*◌, ◌<◌, arith, refl, ◌≤◌, ◌^◌, Encloses, Ratio, ratio, over, den, plus, times, Same, num_plus, den_plus, num_over, den_over, num_times}
use Rattle.conductance_bounds.proofs.Common.{den_times, value, one, two, half, in_a_row, Term, exact, Holds, PairEncloses, bound, pair, row_term, Lower, Upper, plus-Same, over-Same, plus-positive}
use Rattle.conductance_bounds.proofs.Common.{over-positive, Same-self, times-positive, mul-le-mul_right, le_of_mul-le-mul_right, is_ceiling, is_floor}
use Rattle.conductance_bounds.proofs.Sides.{bound_on, IsFactor, exact_positive, number_is_factor, number_one, sum_is_factor, product_is_factor, quotient_is_factor}

-- n / 10 ^ s ≤ a / x ≤ b / y, over plain numbers
pub below_units : (n a x b y p : ℕ) → 0 < x → n * x ≤ a * p → a * y ≤ b * x → n * y ≤ b * p
below_units n a x b y p h q r = le_of_mul-le-mul_right {k = x} (omega (arith, mul-le-mul_right y q, mul-le-mul_right p r)) h

pub above_units : (n a x b y p : ℕ) → 0 < x → a * p ≤ n * x → b * x ≤ a * y → b * p ≤ n * y
above_units n a x b y p h q r = le_of_mul-le-mul_right {k = x} (omega (arith, mul-le-mul_right y q, mul-le-mul_right p r)) h

-- The pair of a formula contains its value.
pub pair_encloses : (t : Term) (s : ℕ) → Holds t → PairEncloses t s (exact t)
unfolding pair
pair_encloses t s h =
    let low = value (bound t Lower) in
    let high = value (bound t Upper) in
    record {
      lower = below_units _ low.num (den low) (exact t).num (den (exact t)) (10 ^ s) (omega arith) (is_floor low s).at_most (bound_on t h Lower).cross;
      upper = above_units _ high.num (den high) (exact t).num (den (exact t)) (10 ^ s) (omega arith) (is_ceiling high s).at_least (bound_on t h Upper).cross;
    }

-- its bounds are in order
pub pair_ordered : (t : Term) (s : ℕ) → Holds t → (pair t s).lo ≤ (pair t s).hi
pair_ordered t s h = let e = pair_encloses t s h in le_of_mul-le-mul_right {k = den (exact t)} (omega (arith, e.lower, e.upper)) (omega arith)

pub Encloses-same : (lo hi s : ℕ) (f g : Ratio) → Same f g → Encloses lo hi s f → Encloses lo hi s g
Encloses-same lo hi s f g e h = record {
  lower = below_units lo f.num (den f) g.num (den g) (10 ^ s) (omega arith) h.lower (omega (arith, e.cross));
  upper = above_units hi f.num (den f) g.num (den g) (10 ^ s) (omega arith) h.upper (omega (arith, e.cross));
}

-- the formula holds, and its value is f
pub record Gives (t : Term) (f : Ratio) : Type 0 where
  pub holds : Holds t
  pub same : Same (exact t) f

pub term_pair_encloses : {t : Term} {f : Ratio} (s : ℕ) → Gives t f → PairEncloses t s f
term_pair_encloses {t} {f} s g = Encloses-same _ _ s (exact t) f g.same (pair_encloses t s g.holds)

-- Half of a cell: equal formulas of its resistance.
-- 2 * w * k * t, in the two ways to group it
regrouped : (w x k y t z : ℕ) → ((w * x + w * x) * (k * t)) * (((1 * x) * y) * z) ≡ (((2 * w) * k) * t) * ((x * x) * (y * z))
regrouped w x k y t z = omega arith

regroup : (w k t : Ratio) → Same (times (plus w w) (times k t)) (times (times (times two w) k) t)
unfolding ratio
regroup w k t = record {
  cross = rw (
    num_times (plus w w) (times k t),
    den_times (plus w w) (times k t),
    num_times (times (times two w) k) t,
    den_times (times (times two w) k) t,
    num_times k t,
    den_times k t,
    num_times (times two w) k,
    den_times (times two w) k,
    num_times two w,
    den_times two w,
    num_plus w w,
    den_plus w w,
  )
      (regrouped w.num (den w) k.num (den k) t.num (den t));
}

two_positive : 0 < two.num
unfolding ratio
two_positive = omega arith

-- the terms of a half, and its divisor, are positive
pub divisor_positive : (w k t : Ratio) → 0 < w.num → 0 < k.num → 0 < t.num → 0 < (times (plus w w) (times k t)).num
divisor_positive w k t hw hk ht = times-positive (plus w w) (times k t) (plus-positive w w hw) (times-positive k t hk ht)

pub half-Same : (d w k t : Ratio) → 0 < w.num → 0 < k.num → 0 < t.num → Same (over d (times (plus w w) (times k t))) (half d w k t)
unfolding half
half-Same d w k t hw hk ht = over-Same (divisor_positive w k t hw hk ht)
    (times-positive (times (times two w) k) t (times-positive (times two w) k (times-positive two w two_positive hw) hk) ht)
    (Same-self d) (regroup w k t)

half_positive : (d w k t : Ratio) → 0 < d.num → 0 < (half d w k t).num
unfolding half
half_positive d w k t h = over-positive d _ h

-- two halves in a row
pub same_row : (w d₁ k₁ t₁ d₂ k₂ t₂ : Ratio) → 0 < w.num → 0 < d₁.num → 0 < k₁.num → 0 < t₁.num → 0 < k₂.num → 0 < t₂.num →
    Same (over one (plus (over d₁ (times (plus w w) (times k₁ t₁))) (over d₂ (times (plus w w) (times k₂ t₂))))) (in_a_row (half d₁ w k₁ t₁) (half d₂ w k₂ t₂))
unfolding in_a_row
same_row w d₁ k₁ t₁ d₂ k₂ t₂ hw hd₁ hk₁ ht₁ hk₂ ht₂ =
    let p : 0 < (half d₁ w k₁ t₁).num = half_positive d₁ w k₁ t₁ hd₁ in
    over-Same (plus-positive _ _ (over-positive d₁ _ hd₁)) (plus-positive _ _ p) (record { cross = refl }) (plus-Same (half-Same d₁ w k₁ t₁ hw hk₁ ht₁) (half-Same d₂ w k₂ t₂ hw hk₂ ht₂))

-- a row's or a column's formula gives the manual's conductance
pub row_gives : (w d₁ : Ratio) (k₁ t₁ : Term) (d₂ : Ratio) (k₂ t₂ : Term) → 0 < w.num → 0 < d₁.num → 0 < d₂.num → IsFactor k₁ → IsFactor t₁ → IsFactor k₂ → IsFactor t₂ →
    Gives (row_term w d₁ k₁ t₁ d₂ k₂ t₂) (in_a_row (half d₁ w (exact k₁) (exact t₁)) (half d₂ w (exact k₂) (exact t₂)))
row_gives w d₁ k₁ t₁ d₂ k₂ t₂ hw hd₁ hd₂ fk₁ ft₁ fk₂ ft₂ =
    let wide = sum_is_factor (number_is_factor w hw) (number_is_factor w hw) in
    let first = quotient_is_factor (number_is_factor d₁ hd₁) (product_is_factor wide (product_is_factor fk₁ ft₁)) in
    let second = quotient_is_factor (number_is_factor d₂ hd₂) (product_is_factor wide (product_is_factor fk₂ ft₂)) in
    record {
      holds = (quotient_is_factor number_one (sum_is_factor first second)).holds;
      same = same_row w d₁ (exact k₁) (exact t₁) d₂ (exact k₂) (exact t₂) hw hd₁ (exact_positive fk₁) (exact_positive ft₁) (exact_positive fk₂) (exact_positive ft₂);
    }

halves : (t dt k dk : ℕ) → (t * (dk * dk)) * ((dt * 2) * k) ≡ ((t * 1) * dk) * (dt * (k * dk + k * dk))
halves t dt k dk = omega arith

-- t / (k + k) is (t / 2) / k
pub half_of : (t k : Ratio) → 0 < k.num → Same (over t (plus k k)) (over (over t two) k)
unfolding ratio
half_of t k h = record {
  cross = rw (
    num_over t (plus k k),
    den_over t (plus k k) (plus-positive k k h),
    num_over (over t two) k,
    den_over (over t two) k h,
    num_over t two,
    den_over t two (omega arith),
    num_plus k k,
    den_plus k k,
  ) (halves t.num (den t) k.num (den k));
}

-- nothing added
nothing : (x dx z : ℕ) → (x * z + 0 * dx) * dx ≡ x * (dx * z)
nothing x dx z = omega arith

pub plus_none : (x y : Ratio) → y.num ≡ 0 → Same (plus x y) x
plus_none x y e = record { cross = rw (num_plus x y, den_plus x y, e) (nothing x.num (den x) (den y)) }

pub zero_times : (b : Ratio) (v : Ratio) → b.num ≡ 0 → (over b v).num ≡ 0
zero_times b v e = rw (num_over b v, e) (omega arith)
