use Rattle.decimal_input.proofs.Common.{◌≡◌, ℕ, zero, suc, ◌+◌, ◌*◌, ◌≤◌, ◌<◌, ◌-◌, ◌^◌, arith, ℤ, pos, negsuc, ◌+ℤ◌, ap, subst, refl, inl, inr, sym, ◌∙◌, true, false, add-one, Bool, Ok, neg_ℤ, ◌≤ℤ◌}
use Rattle.decimal_input.proofs.Common.{mul-le-mul_left, mul-le-mul_right, pow-suc, pow-add, ints, ratio, up, down, scaled_ratio, IsOf, IsTrimmed, IsDec, IsCanonical, times, AtMost, Same}
use Rattle.decimal_input.proofs.Orders.{num_times, den_times}
use Rattle.decimal_input.specs.declared.coefficient.Coefficient.{Coefficient}

pub ten_pos : (n : ℕ) → 0 < 10 ^ n
ten_pos zero = omega arith
ten_pos (suc n) = omega (arith, pow-suc 10 n, ten_pos n)

pub ten_more : (k j : ℕ) → 10 ^ k ≤ 10 ^ (k + j)
ten_more k j = rw pow-add (omega (arith, mul-le-mul_left (10 ^ k) (ten_pos j)))

pub power_within : (k n : ℕ) → k ≤ n → 10 ^ k ≤ 10 ^ n
power_within k n h = let e : k + (n - k) ≡ n = omega arith in let P : ℕ → Type 0 = λ i. 10 ^ k ≤ 10 ^ i in subst P e (ten_more k (n - k))

-- e is up e less down e
pub up_down : (e : ℤ) → e +ℤ pos (down e) ≡ pos (up e)
up_down (pos n) = omega (arith, ints)
up_down (negsuc n) = omega (arith, ints)

pub num_scaled : (m : ℕ) (e : ℤ) → (scaled_ratio m e).num ≡ m * 10 ^ up e
unfolding scaled_ratio ratio
num_scaled m e = refl

pub den_scaled : (m : ℕ) (e : ℤ) → suc (scaled_ratio m e).less ≡ 10 ^ down e
unfolding scaled_ratio ratio
den_scaled m e = omega (arith, ten_pos (down e))

pub pow_three : (a b c x y z : ℕ) → a + b + c ≡ x + y + z → 10 ^ a * 10 ^ b * 10 ^ c ≡ 10 ^ x * 10 ^ y * 10 ^ z
pow_three a b c x y z h = rw (← pow-add 10 a b, ← pow-add 10 (a + b) c, ← pow-add 10 x y, ← pow-add 10 (x + y) z) (ap (λ (k : ℕ). 10 ^ k) h)

sum_balance : (d e : ℤ) → up d + up e + down (d +ℤ e) ≡ up (d +ℤ e) + down d + down e
sum_balance d e = omega (arith, ints, up_down d, up_down e, up_down (d +ℤ e))

pub scaled_times : (m n : ℕ) (d e : ℤ) → Same (times (scaled_ratio m d) (scaled_ratio n e)) (scaled_ratio (m * n) (d +ℤ e))
scaled_times m n d e = record {
  cross = rw (num_times, den_times, num_scaled m d, num_scaled n e, num_scaled (m * n) (d +ℤ e), den_scaled m d, den_scaled n e, den_scaled (m * n) (d +ℤ e))
      (regroup m n (10 ^ up d) (10 ^ up e) (10 ^ down (d +ℤ e)) (10 ^ up (d +ℤ e)) (10 ^ down d) (10 ^ down e)
      (pow_three (up d) (up e) (down (d +ℤ e)) (up (d +ℤ e)) (down d) (down e) (sum_balance d e)));
}
  where
    regroup : (m n a b c x y z : ℕ) → a * b * c ≡ x * y * z → (m * a) * (n * b) * c ≡ (m * n) * x * (y * z)
    regroup m n a b c x y z h = let k : (m * n) * (a * b * c) ≡ (m * n) * (x * y * z) = ap (λ (t : ℕ). (m * n) * t) h in omega (arith, k)

shift_balance : (e : ℤ) (j : ℕ) → j + up e + down (e +ℤ pos j) ≡ up (e +ℤ pos j) + 0 + down e
shift_balance e j = omega (arith, ints, up_down e, up_down (e +ℤ pos j))

pub scaled_shift : (m j : ℕ) (e : ℤ) → Same (scaled_ratio (m * 10 ^ j) e) (scaled_ratio m (e +ℤ pos j))
scaled_shift m j e = record {
  cross = rw (num_scaled, num_scaled, den_scaled, den_scaled)
      (regroup m (10 ^ j) (10 ^ up e) (10 ^ down (e +ℤ pos j)) (10 ^ up (e +ℤ pos j)) (10 ^ down e) (pow_three j (up e) (down (e +ℤ pos j)) (up (e +ℤ pos j)) 0 (down e) (shift_balance e j)));
}
  where
    regroup : (m a b c x z : ℕ) → a * b * c ≡ x * 1 * z → (m * a) * b * c ≡ m * x * z
    regroup m a b c x z h = let k : m * (a * b * c) ≡ m * (x * 1 * z) = ap (λ (t : ℕ). m * t) h in omega (arith, k)

pub scaled-AtMost : (m n : ℕ) (e : ℤ) → m ≤ n → AtMost (scaled_ratio m e) (scaled_ratio n e)
scaled-AtMost m n e h = grind (arith, num_scaled, den_scaled, mul-le-mul_right)

-- comparison of two decimals as one of powers
pub cross_of : (m n : ℕ) (d e : ℤ) → (scaled_ratio m d).num * suc (scaled_ratio n e).less ≡ m * 10 ^ (up d + down e)
cross_of m n d e = rw (num_scaled, den_scaled, pow-add) (omega arith)

zero_more : (c d z : ℕ) → IsTrimmed c d z → IsTrimmed (c * 10 + 0) d (z + 1)
zero_more c d z h = record { whole = rw (add-one, pow-suc 10 z) (omega (arith, h.whole)); last = h.last }

-- c with a digit above 0 behind it ends there
ends : (c d : ℕ) → d < 10 → 0 < d → IsTrimmed (c * 10 + d) (c * 10 + d) 0
ends c d h p = record { whole = omega arith; last = omega arith }

grows : (d z : ℕ) → d ≤ d * 10 ^ z
grows d z = omega (arith, mul-le-mul_left d (ten_pos z))

many_more : (c d z n : ℕ) → n < 10 → IsTrimmed c d z → 10 ^ 18 ≤ d → (e : ℕ) × (y : ℕ) × IsTrimmed (c * 10 + n) e y × (10 ^ 18 ≤ e)
many_more c d z zero hn h big = (d, z + 1, zero_more c d z h, big)
many_more c d z (suc n) hn h big = (c * 10 + suc n, 0, ends c (suc n) hn (omega arith), omega (arith, h.whole, grows d z, big))

pub many_again : (k : Coefficient) (c n : ℕ) → k.many ≡ true → n < 10 → IsOf k c → IsOf k (c * 10 + n)
many_again k c n t hn (inl (m, d, z, h, big)) = let r = many_more c d z n hn h big in inl (m, r.0, r.1, r.2, r.3)
many_again k c n t hn (inr (inl h)) = absurd (let e : true ≡ false = sym t ∙ h.0 in cc)
many_again k c n t hn (inr (inr h)) = absurd (let e : true ≡ false = sym t ∙ h.0 in cc)

-- a number with few digits, not 0, has them all in k
pub coefficient_is_trimmed : (k : Coefficient) (c : ℕ) → k.many ≡ false → (k.digits ≡ 0 → ⊥) → IsOf k c → IsTrimmed c k.digits k.zeros
coefficient_is_trimmed k c f ne (inl h) = absurd (let e : true ≡ false = sym h.0 ∙ f in cc)
coefficient_is_trimmed k c f ne (inr (inl h)) = absurd (ne h.1.1)
coefficient_is_trimmed k c f ne (inr (inr h)) = h.2

pub zero_behind : (k r : Coefficient) (c : ℕ) → r.many ≡ false → r.digits ≡ k.digits → r.zeros ≡ k.zeros + 1 → k.digits < 10 ^ 18 → IsTrimmed c k.digits k.zeros → IsOf r (c * 10 + 0)
zero_behind k r c m d z few h = inr (inr (m, omega arith, rw (d, z) (zero_more c k.digits k.zeros h)))

pub digits_behind : (r : Coefficient) (c n : ℕ) → r.many ≡ false → r.zeros ≡ 0 → r.digits ≡ c * 10 + n → r.digits < 10 ^ 18 → n < 10 → 0 < n → IsOf r (c * 10 + n)
digits_behind r c n m z d few hn hp = inr (inr (m, few, rw (d, z) (ends c n hn hp)))

pub many_behind : (r : Coefficient) (c n : ℕ) → r.many ≡ true → 10 ^ 18 ≤ c * 10 + n → n < 10 → 0 < n → IsOf r (c * 10 + n)
many_behind r c n m big hn hp = inl (m, c * 10 + n, 0, ends c n hn hp, big)

-- digits with 18 zeros behind them
pub long : (c d z : ℕ) → 18 ≤ z → 0 < d → IsTrimmed c d z → 10 ^ 18 ≤ c
long c d z hz hd h = by_more (z - 18) (omega arith)
  where
    by_more : (j : ℕ) → z ≡ 18 + j → 10 ^ 18 ≤ c
    by_more j e =
        let split : 10 ^ z ≡ 10 ^ 18 * 10 ^ j = rw e (pow-add 10 18 j) in
        let more : 1 * 10 ^ 18 ≤ d * 10 ^ 18 = mul-le-mul_right (10 ^ 18) hd in
        let k : d * 10 ^ z ≡ d * (10 ^ 18 * 10 ^ j) = ap (λ (x : ℕ). d * x) split in
        omega (arith, h.whole, k, mul-le-mul_left (d * 10 ^ 18) (ten_pos j), more)

pub shifted : (c d z t n : ℕ) → t ≡ 10 ^ (z + 1) → IsTrimmed c d z → d * t + n ≡ c * 10 + n
shifted c d z t n ht h =
    let e : t ≡ 10 ^ z * 10 = ht ∙ (rw add-one (pow-suc 10 z)) in
    let k : d * t ≡ d * (10 ^ z * 10) = ap (λ (x : ℕ). d * x) e in
    omega (arith, k, h.whole)

pub accepted : (k : Coefficient) (neg : Bool) (n : ℕ) (e g : ℤ) → k.many ≡ false → (k.digits ≡ 0 → ⊥) → k.digits < 10 ^ 18 → IsOf k n → g ≡ e +ℤ pos k.zeros →
    neg_ℤ (pos 40) ≤ℤ g → g ≤ℤ pos 40 → IsCanonical neg n e (Ok (record { neg = neg; digits = k.digits; exp = g }))
accepted k neg n e g f ne few h hg low high = grind (arith, coefficient_is_trimmed)

pub number : (k : Coefficient) (neg : Bool) (n : ℕ) (g : ℤ) → k.many ≡ false → (k.digits ≡ 0 → ⊥) → k.digits < 10 ^ 18 → IsOf k n → neg_ℤ (pos 40) ≤ℤ g →
    g ≤ℤ pos 40 → IsDec (record { neg = neg; digits = k.digits; exp = g })
number k neg n g f ne few h low high = grind (arith, coefficient_is_trimmed)

pub zero_number : IsDec (record { neg = false; digits = 0; exp = pos 0 })
zero_number = record { few = omega arith; form = inl (refl, refl, refl); above = omega (arith, ints); below = omega (arith, ints) }

-- one more digit
pub one_digit_more_fits : (n d i : ℕ) → n < 10 ^ i → d ≤ 9 → n * 10 + d < 10 ^ (i + 1)
one_digit_more_fits n d i h small = rw (add-one, pow-suc 10 i) (omega (arith, h, small))

pub power_fits_18_digits : (n i : ℕ) → i ≤ 18 → n < 10 ^ i → n < 10 ^ 18
power_fits_18_digits n i le h = omega (arith, h, power_within i 18 le)
