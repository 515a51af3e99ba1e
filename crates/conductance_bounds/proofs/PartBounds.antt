-- The part of a period that has passed lies between its bounds, and is at most 1.
use Rattle.conductance_bounds.proofs.Common.{◌≡◌, ℕ, zero, suc, ◌+◌, ◌*◌, ◌-◌, ◌≤◌, ◌<◌, ◌^◌, Bool, true, false, cond, min, arith, refl, subst, sym, ap, mul-le-mul_right, le_of_mul-le-mul_right}
use Rattle.conductance_bounds.proofs.Common.{cases_lt, size, Ratio, ratio, over, scaled_ratio, den, AtMost, Same, plus, times, AtMost-trans, AtMost-refl, Same-AtMost, num_plus, num_over, den_over}
use Rattle.conductance_bounds.proofs.Common.{Same-trans, Same-sym, den_plus, value, IsTimed, number_one, one, power, geometric, multiplier, part_passed, Span, AreBounds, exact, bound, Lower, sum_term}
use Rattle.conductance_bounds.proofs.Common.{part, pair, IsPassed, part_term, is_whole, power_term, over-Same, Same-self, plus-Same, times-Same, IsFloor, Sd, Upper, in_units, ◌∙◌, cond-false}
use Rattle.conductance_bounds.proofs.Common.{cond-true, Part, one_floor, Period}
use Rattle.model_types.proofs.Growth.{geometric_sum_steps}
use Rattle.conductance_bounds.proofs.Sides.{IsFactor, bound_on, exact_positive, more_positive, quotient_is_factor, size_positive, sum_factor}
use Rattle.conductance_bounds.proofs.Manual.{Encloses-same, pair_encloses}
use Rattle.scaled_decimal.proofs.Products.{more_plus}

-- Terms of growing time steps, by Horner's rule.
pub power_is : (t : Ratio) (n : ℕ) → exact (power_term t n) ≡ power t n
unfolding power_term power
power_is t zero = refl
power_is t (suc n) = ap (λ r. times r t) (power_is t n)

one_is : Same one (plus (ratio 0 1) one)
unfolding ratio
one_is = record { cross = rw (num_plus (ratio 0 1) one, den_plus (ratio 0 1) one) refl }

first_one : (t : Ratio) → Same (geometric t (suc zero)) one
unfolding geometric power
first_one t = Same-sym one_is

pub sum_is : (t : Ratio) (n : ℕ) → Same (exact (sum_term t n)) (geometric t (suc n))
unfolding sum_term
sum_is t zero = Same-sym (first_one t)
sum_is t (suc n) = Same-trans (plus-Same (times-Same (sum_is t n) (Same-self t)) (Same-self one)) (Same-sym (geometric_sum_steps t (suc n)))

pub sum_at : (t : Ratio) (k : ℕ) → 1 ≤ k → Same (exact (sum_term t (k - 1))) (geometric t k)
sum_at t k h = subst (λ (m : ℕ). Same (exact (sum_term t (k - 1))) (geometric t m)) (let e : suc (k - 1) ≡ k = omega (arith, h) in e) (sum_is t (k - 1))

next : (t : Ratio) (m : ℕ) → AtMost (geometric t m) (geometric t (suc m))
unfolding geometric
next t m = more_plus (geometric t m) (power t m)

pub geometric_grows : (t : Ratio) (n k : ℕ) → AtMost (geometric t n) (geometric t (n + k))
geometric_grows t n zero = subst (λ (m : ℕ). AtMost (geometric t n) (geometric t m)) (let e : n ≡ n + 0 = omega arith in e) (AtMost-refl (geometric t n))
geometric_grows t n (suc k) = AtMost-trans (geometric_grows t n k)
    (subst (λ (m : ℕ). AtMost (geometric t (n + k)) (geometric t m)) (let e : suc (n + k) ≡ n + suc k = omega arith in e) (next t (n + k)))

least : (c g d top : ℕ) → g ≡ min c (10 ^ 18) → top ≤ c * d → top ≤ d * 10 ^ 18 → top ≤ g * d
least c g d top e a b = grind (arith, cases_lt)

all_passed : (f g : ℕ) → f ≡ 10 ^ 18 → g ≡ 10 ^ 18 → IsPassed one f g
unfolding ratio
all_passed f g e d = record { low_range = omega (arith, e); high_range = omega (arith, d); part = omega arith; below = omega (arith, e); above = omega (arith, d) }

-- a quotient of a lesser number is at most 1
at_most_one : (a b : Ratio) → 0 < b.num → AtMost a b → (over a b).num ≤ den (over a b)
at_most_one a b h k = rw (num_over a b, den_over a b h) (omega (arith, k.cross))

abbrev pub part_of : ℕ → ℕ → Part
part_of lo hi = record { lo = lo; hi = hi }

abbrev pub whole_part : Part
whole_part = part_of (10 ^ 18) (10 ^ 18)

abbrev growing_of : Period → ℕ → Part
growing_of p n = part_of (pair (part_term p n) 18).lo (min (pair (part_term p n) 18).hi (10 ^ 18))

-- the part at step n of a period
module _ (p : Period) (n : ℕ) (some : 1 ≤ n) (few : n ≤ p.nstp) (growth : 0 < (multiplier p).num) where
  abbrev share : Ratio
  share = over (geometric (multiplier p) n) (geometric (multiplier p) p.nstp)

  part_factor : IsFactor (part_term p n)
  part_factor = quotient_is_factor (sum_factor (multiplier p) growth (n - 1)) (sum_factor (multiplier p) growth (p.nstp - 1))

  whole : 0 < (geometric (multiplier p) p.nstp).num
  whole = more_positive _ _ (Same-AtMost (sum_at (multiplier p) p.nstp (omega arith))) (exact_positive (sum_factor (multiplier p) growth (p.nstp - 1)))

  part_is : Same (exact (part_term p n)) share
  part_is = over-Same (exact_positive (sum_factor (multiplier p) growth (p.nstp - 1))) whole (sum_at (multiplier p) n some) (sum_at (multiplier p) p.nstp (omega arith))

  share_at_most : share.num ≤ den share
  share_at_most =
      at_most_one (geometric (multiplier p) n) (geometric (multiplier p) p.nstp) whole
      (subst (λ (m : ℕ). AtMost (geometric (multiplier p) n) (geometric (multiplier p) m)) (let e : n + (p.nstp - n) ≡ p.nstp = omega arith in e) (geometric_grows (multiplier p) n (p.nstp - n)))

  growing : IsPassed share (pair (part_term p n) 18).lo (min (pair (part_term p n) 18).hi (10 ^ 18))
  growing =
      let units = Encloses-same _ _ 18 _ share part_is (pair_encloses (part_term p n) 18 part_factor.holds) in
      let capped : share.num * 10 ^ 18 ≤ den share * 10 ^ 18 = mul-le-mul_right (10 ^ 18) share_at_most in
      record {
        low_range = le_of_mul-le-mul_right {k = den share} (omega (arith, units.lower, capped)) (omega arith);
        high_range = omega arith;
        part = share_at_most;
        below = units.lower;
        above = least (pair (part_term p n) 18).hi _ (den share) (share.num * 10 ^ 18) refl units.upper capped;
      }

  -- at every step of a period
  pub part_encloses : IsPassed (part_passed p n) (part p n).lo (part p n).hi
  unfolding part_passed part
  part_encloses = by_case (is_whole p n)
    where
      by_case : (b : Bool) → IsPassed (cond b one share) (cond b whole_part (growing_of p n)).lo (cond b whole_part (growing_of p n)).hi
      by_case true = all_passed (10 ^ 18) (10 ^ 18) refl refl
      by_case false = growing

  -- the rounded part is at most 1, too
  pub lower_at_most : AtMost (value (bound (part_term p n) Lower)) one
  unfolding ratio
  lower_at_most = AtMost-trans (bound_on (part_term p n) part_factor.holds Lower) (AtMost-trans (Same-AtMost part_is) (record { cross = omega (arith, share_at_most) }))

-- the two forms of a part
pub over_is : (p : Period) (n : ℕ) → is_whole p n ≡ true → whole_part ≡ part p n
unfolding part
over_is p n e = sym (cond-true (is_whole p n) whole_part (growing_of p n) e)

pub going_is : (p : Period) (n lo hi : ℕ) (x : Span) → is_whole p n ≡ false → AreBounds (part_term p n) x → IsFloor lo (value x.lo) 18 → hi ≡
    min (in_units Upper (value x.hi) 18) (10 ^ 18) → part_of lo hi ≡ part p n
unfolding part pair
going_is p n lo hi x e bounds floor upper =
    let low = one_floor (value x.lo) lo 18 floor ∙ ap (λ (r : Sd). in_units Lower (value r) 18) bounds.lower in
    let high = upper ∙ ap (λ (r : Sd). min (in_units Upper (value r) 18) (10 ^ 18)) bounds.upper in
    (λ i. part_of (low i) (high i)) ∙ sym (cond-false (is_whole p n) whole_part (growing_of p n) e)

-- a number of at most 1 has at most 10 ^ 18 units
pub few_units : (n : ℕ) (f : Ratio) → AtMost f one → n * den f ≤ f.num * 10 ^ 18 → n ≤ 10 ^ 18
unfolding ratio
few_units n f h k = le_of_mul-le-mul_right {k = den f} (omega (arith, k, mul-le-mul_right (10 ^ 18) h.cross)) (omega arith)

unit_positive : 0 < one.num
unfolding ratio
unit_positive = omega arith

-- the multiplier of a period's steps
pub multiplier_positive : (p : Period) → IsTimed p → 0 < (multiplier p).num
multiplier_positive p h = grind (arith, unit_positive, size_positive)

unity_is_one : size number_one ≡ one
unfolding scaled_ratio
unity_is_one = refl

pub steady_bounds : (p : Period) (n : ℕ) (x : Span) → p.steady ≡ true → AreBounds (sum_term (size number_one) n) x → AreBounds (sum_term (multiplier p) n) x
steady_bounds p n x e h = subst (λ (b : Bool). AreBounds (sum_term (cond b one (size p.tsmult)) n) x) (sym e) (subst (λ (r : Ratio). AreBounds (sum_term r n) x) unity_is_one h)
