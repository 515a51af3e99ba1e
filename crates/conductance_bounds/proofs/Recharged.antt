-- The pair of a recharge contains it, whatever its sign.
use Rattle.conductance_bounds.proofs.Common.{◌≡◌, ℕ, ◌*◌, ◌≤◌, ◌^◌, Bool, true, false, arith, ap, ◌∙◌, ℤ, pos, neg_ℤ, ◌*ℤ◌, ints, Dec, size, Ratio, times, Same, Fraction, as_fraction, with_sign}
use Rattle.conductance_bounds.proofs.Common.{Encloses, EnclosesSigned, Number, number, num_times, den_times, Same-sym, neg_times, recharge_formula, recharge_exact, FlowEncloses, Pair, pair}
use Rattle.conductance_bounds.proofs.Common.{signed_pair}
use Rattle.decimal_input.specs.Fractions.{den as denominator, times as product}
use Rattle.conductance_bounds.proofs.Manual.{pair_encloses, Encloses-same}

-- a number with a sign times an area
abbrev with_area : Bool → Ratio → Ratio → Fraction
with_area neg r a = product (record { num = with_sign neg r.num; less = r.less }) (as_fraction a)

plain_low : (l n d p n' d' : ℕ) → n ≡ n' → d ≡ d' → l * d ≤ n * p → l * d' ≤ n' * p
plain_low l n d p n' d' e q h = omega (arith, h, (let a : n * p ≡ n' * p = ap (λ (z : ℕ). z * p) e in a), (let b : l * d ≡ l * d' = ap (λ (z : ℕ). l * z) q in b))

plain_high : (h n d p n' d' : ℕ) → n ≡ n' → d ≡ d' → n * p ≤ h * d → n' * p ≤ h * d'
plain_high h n d p n' d' e q k = omega (arith, k, (let a : n * p ≡ n' * p = ap (λ (z : ℕ). z * p) e in a), (let b : h * d ≡ h * d' = ap (λ (z : ℕ). h * z) q in b))

-- not below 0
gain_encloses : (r a : Ratio) (l h s : ℕ) → Encloses l h s (times r a) → EnclosesSigned (pos l) (pos h) s (with_area false r a)
gain_encloses r a l h s k = grind (arith, den_times, plain_low, num_times, plain_high)

-- below 0: the bounds of the magnitude, negated and exchanged
loss_encloses : (r a : Ratio) (l h s : ℕ) → Encloses l h s (times r a) → EnclosesSigned (neg_ℤ (pos h)) (neg_ℤ (pos l)) s (with_area true r a)
loss_encloses r a l h s k =
    let up = gain_encloses r a l h s k in
    let num : neg_ℤ (pos r.num) *ℤ pos a.num ≡ neg_ℤ (pos (r.num * a.num)) = neg_times (pos r.num) (pos a.num) in
    let top : (neg_ℤ (pos r.num) *ℤ pos a.num) *ℤ pos (10 ^ s) ≡ neg_ℤ (pos (r.num * a.num) *ℤ pos (10 ^ s)) = ap (λ (z : ℤ). z *ℤ pos (10 ^ s)) num ∙ neg_times (pos (r.num * a.num)) (pos (10 ^ s)) in
    record {
      lower = omega (arith, ints, up.upper, top, neg_times (pos h) (pos (denominator (with_area true r a))));
      upper = omega (arith, ints, up.lower, top, neg_times (pos l) (pos (denominator (with_area true r a))));
    }

both_encloses : (neg : Bool) (r a : Ratio) (p : Pair) (s : ℕ) → Encloses p.lo p.hi s (times r a) → EnclosesSigned (signed_pair neg p).lo (signed_pair neg p).hi s (with_area neg r a)
both_encloses false r a p s k = gain_encloses r a p.lo p.hi s k
both_encloses true r a p s k = loss_encloses r a p.lo p.hi s k

pub times_is_associative : (a b c : Ratio) → Same (times a (times b c)) (times (times a b) c)
times_is_associative a b c = record {
  cross = rw (
    num_times a (times b c),
    den_times a (times b c),
    num_times (times a b) c,
    den_times (times a b) c,
    num_times b c,
    den_times b c,
    num_times a b,
    den_times a b,
  ) (omega arith);
}

-- the bounds of a recharge over a cell of lengths r and d
pub flow_encloses : (rate : Dec) (r d : Ratio) (s : ℕ) → FlowEncloses (recharge_formula (size rate) r d) rate.neg s (with_area rate.neg (size rate) (times r d))
flow_encloses rate r d s =
    both_encloses rate.neg (size rate) (times r d) (pair (recharge_formula (size rate) r d) s) s
    (Encloses-same _ _ s _ _ (Same-sym (times_is_associative (size rate) r d)) (pair_encloses (recharge_formula (size rate) r d) s ((tt, tt), tt)))

pub recharge_encloses : (rate delr delc : Dec) (s : ℕ) → FlowEncloses (recharge_formula (size rate) (size delr) (size delc)) rate.neg s (recharge_exact rate delr delc)
recharge_encloses rate delr delc s = flow_encloses rate (size delr) (size delc) s

-- the bounds of a flow of the input
signed_encloses : (neg : Bool) (r : Ratio) (p : Pair) (s : ℕ) → Encloses p.lo p.hi s r →
    EnclosesSigned (signed_pair neg p).lo (signed_pair neg p).hi s (record { num = with_sign neg r.num; less = r.less })
signed_encloses false r p s k = record { lower = omega (arith, ints, k.lower); upper = omega (arith, ints, k.upper) }
signed_encloses true r p s k = grind (arith, neg_times)

pub number_encloses : (q : Dec) (s : ℕ) → FlowEncloses (Number (size q)) q.neg s (number q)
number_encloses q s = signed_encloses q.neg (size q) (pair (Number (size q)) s) s (pair_encloses (Number (size q)) s tt)
