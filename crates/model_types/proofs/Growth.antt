-- Growing time steps: Horner's rule is the sum of powers.
use Rattle.model_types.proofs.Common.{◌≡◌, ℕ, zero, suc, ◌+◌, ◌*◌, ◌<◌, arith, power, geometric, one}
use Rattle.decimal_input.specs.{Ratio, ratio, Ratios.den, Ratios.plus, Ratios.times, Ratios.Same}
use Rattle.decimal_input.proofs.{Orders.Same-trans, Orders.num_times, Orders.den_times, Orders.num_plus, Orders.den_plus, SameNumbers.Same-self, SameNumbers.plus-Same, SameNumbers.times-positive}

pub power-positive : (t : Ratio) (n : ℕ) → 0 < t.num → 0 < (power t n).num
unfolding power ratio
power-positive t zero h = omega arith
power-positive t (suc n) h = times-positive (power t n) t (power-positive t n h) h

grouped : (g x t y p z : ℕ) → ((((g * t) * 1 + 1 * (x * y)) * (z * y)) + (p * t) * ((x * y) * 1)) * (((x * z) * y) * 1) ≡ (((g * z + p * x) * t) * 1 + 1 * ((x * z) * y)) * (((x * y) * 1) * (z * y))
grouped g x t y p z = omega arith

-- (g t + 1) + p t is (g + p) t + 1
regrouped : (g t p : Ratio) → Same (plus (plus (times g t) one) (times p t)) (plus (times (plus g p) t) one)
unfolding ratio
regrouped g t p = record {
  cross = rw (
    num_plus (plus (times g t) one) (times p t),
    den_plus (plus (times g t) one) (times p t),
    num_plus (times (plus g p) t) one,
    den_plus (times (plus g p) t) one,
    num_plus (times g t) one,
    den_plus (times g t) one,
    num_times (plus g p) t,
    den_times (plus g p) t,
    num_times g t,
    den_times g t,
    num_times p t,
    den_times p t,
    num_plus g p,
    den_plus g p,
  )
      (grouped g.num (den g) t.num (den t) p.num (den p));
}

first : (t : Ratio) → Same (plus (ratio 0 1) one) (plus (times (ratio 0 1) t) one)
unfolding ratio
first t = record {
  cross = rw (
    num_plus (ratio 0 1) one,
    den_plus (ratio 0 1) one,
    num_plus (times (ratio 0 1) t) one,
    den_plus (times (ratio 0 1) t) one,
    num_times (ratio 0 1) t,
    den_times (ratio 0 1) t,
  ) (omega arith);
}

-- G(n + 1) = G(n) t + 1
pub geometric_sum_steps : (t : Ratio) (n : ℕ) → Same (geometric t (suc n)) (plus (times (geometric t n) t) one)
unfolding geometric power
geometric_sum_steps t zero = first t
geometric_sum_steps t (suc n) = Same-trans (plus-Same (geometric_sum_steps t n) (Same-self (times (power t n) t))) (regrouped (geometric t n) t (power t n))
