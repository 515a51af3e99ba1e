use Rattle.decimal_input.proofs.Common.{◌≡◌, ℕ, zero, suc, ◌+◌, ◌*◌, ◌-◌, ◌/◌, ◌≤◌, ◌<◌, ◌^◌, ap, arith, ℤ, pos, ◌+ℤ◌, Option, Some, None, MatchOption, ints, mul-le-mul, mul-le-mul_right}
use Rattle.decimal_input.proofs.Common.{lt-mul-div-succ, div-mul-le_self, div-lt_iff_lt-mul, Ratio, scaled_ratio, up, down, IsFloor, IsCeiling, Reaches, Passes, IsUnits, Bool, true, false, min}
use Rattle.decimal_input.proofs.Common.{cases_lt, inl, inr, ◌∙◌}
use Rattle.decimal_input.proofs.{Cross.lt_right, Cross.lt_cancel, Cross.le_cancel, Powers.ten_pos, Powers.ten_more, Powers.num_scaled, Powers.den_scaled, Powers.up_down, Powers.pow_three}

whole_balance : (e : ℤ) (s k : ℕ) → e +ℤ pos s ≡ pos k → up e + s + 0 ≡ k + down e + 0
whole_balance e s k h = omega (arith, ints, h, up_down e)

-- an 18-digit number is below a power from 10 ^ 18 on
pub below_ten : (n k j : ℕ) → n < 10 ^ 18 → k ≡ 18 + j → n < 10 ^ k
below_ten n k j h e = rw e (omega (arith, ten_more 18 j))

-- a decimal with the exponent k, from 0 on, in units of 10 ^ -s
pub whole_units : (m s k : ℕ) (e : ℤ) → e +ℤ pos s ≡ pos k → (scaled_ratio m e).num * 10 ^ s ≡ (m * 10 ^ k) * suc (scaled_ratio m e).less
whole_units m s k e h = rw (num_scaled, den_scaled) (regroup m (10 ^ up e) (10 ^ s) (10 ^ k) (10 ^ down e) (pow_three (up e) s 0 k (down e) 0 (whole_balance e s k h)))
  where
    regroup : (m a b x y : ℕ) → a * b * 1 ≡ x * y * 1 → m * a * b ≡ (m * x) * y
    regroup m a b x y h = let k : m * (a * b * 1) ≡ m * (x * y * 1) = ap (λ (t : ℕ). m * t) h in omega (arith, k)

cut_balance : (e : ℤ) (s k : ℕ) → e +ℤ pos s +ℤ pos k ≡ pos 0 → up e + s + k ≡ down e + 0 + 0
cut_balance e s k h = omega (arith, ints, h, up_down e)

-- a decimal with the exponent -k in units of 10 ^ -s
pub cut_units : (m s k : ℕ) (e : ℤ) → e +ℤ pos s +ℤ pos k ≡ pos 0 → ((scaled_ratio m e).num * 10 ^ s) * 10 ^ k ≡ m * suc (scaled_ratio m e).less
cut_units m s k e h = rw (num_scaled, den_scaled) (regroup m (10 ^ up e) (10 ^ s) (10 ^ k) (10 ^ down e) (pow_three (up e) s k (down e) 0 0 (cut_balance e s k h)))
  where
    regroup : (m a b c x : ℕ) → a * b * c ≡ x * 1 * 1 → ((m * a) * b) * c ≡ m * x
    regroup m a b c x h = let k : m * (a * b * c) ≡ m * (x * 1 * 1) = ap (λ (t : ℕ). m * t) h in omega (arith, k)

floor_whole : (f : Ratio) (n s : ℕ) → f.num * 10 ^ s ≡ n * suc f.less → IsFloor n f s
floor_whole f n s h = record { at_most = omega arith; next = omega arith }

pub reaches_whole : (f : Ratio) (a n s : ℕ) → f.num * 10 ^ s ≡ n * suc f.less → a ≤ n → Reaches a f s
reaches_whole f a n s h le = record { reach = omega (arith, h, mul-le-mul_right (suc f.less) le) }

-- the whole part, where f * 10 ^ s is m over t
pub floor_cut : (f : Ratio) (m n s t : ℕ) → 0 < t → (f.num * 10 ^ s) * t ≡ m * suc f.less → n * t ≤ m → m < (n + 1) * t → IsFloor n f s
floor_cut f m n s t ht h least most = record {
  at_most = le_cancel t _ _ ht (omega (arith, h, mul-le-mul_right (suc f.less) least));
  next = lt_cancel t _ _ (omega (arith, h, lt_right (suc f.less) m ((n + 1) * t) (omega arith) most));
}

-- where a unit is 10 ^ 18 at most, since 10 ^ 18 is above each m
pub floor_quotient : (f : Ratio) (m s k t : ℕ) → m < 10 ^ 18 → t ≡ 10 ^ min k 18 → (f.num * 10 ^ s) * 10 ^ k ≡ m * suc f.less → IsFloor (m / t) f s
floor_quotient f m s k t few ht h = elim (cases_lt k 18) [
  | inl lt ↦ (let same : min k 18 ≡ k = omega (arith, lt) in let e : t ≡ 10 ^ k = ht ∙ ap (λ (n : ℕ). 10 ^ n) same in
      let positive : 0 < t = omega (arith, e, ten_pos k) in floor_cut f m (m / t) s t positive (rw e h) (div-mul-le_self m t)
      (omega (arith, lt-mul-div-succ m positive)))
  | inr ge ↦ (let same : min k 18 ≡ 18 = omega (arith, ge) in let e : t ≡ 10 ^ 18 = ht ∙ ap (λ (n : ℕ). 10 ^ n) same in
      let none : m / t ≡ 0 = rw e (omega (arith, few)) in rw none
      (floor_cut f m 0 s (10 ^ k) (ten_pos k) h (omega arith) (omega (arith, below_ten m k (k - 18) few (omega (arith, ge))))))
]

floor_zero : (f : Ratio) (s : ℕ) → f.num ≡ 0 → IsFloor 0 f s
floor_zero f s h = record { at_most = omega arith; next = rw h (omega arith) }

pub num_nothing : (m : ℕ) (e : ℤ) → m ≡ 0 → (scaled_ratio m e).num ≡ 0
num_nothing m e h = rw (num_scaled, h) (omega arith)

ceiling_zero : (f : Ratio) (s : ℕ) → f.num ≡ 0 → IsCeiling 0 f s
ceiling_zero f s h = record { at_least = rw h (omega arith); least = λ k _. omega arith }

ceiling_whole : (f : Ratio) (n s : ℕ) → f.num * 10 ^ s ≡ n * suc f.less → IsCeiling n f s
ceiling_whole f n s h = record { at_least = omega arith; least = λ k le. le_cancel (suc f.less) n k (omega arith) (omega (arith, h, le)) }

pub passes_whole : (f : Ratio) (a n s : ℕ) → f.num * 10 ^ s ≡ n * suc f.less → a < n → Passes a f s
passes_whole f a n s h lt = record { pass = omega (arith, h, lt_right (suc f.less) a n (omega arith) lt) }

-- the least whole number that reaches m over t
pub ceiling_cut : (f : Ratio) (m n s t : ℕ) → 0 < t → (f.num * 10 ^ s) * t ≡ m * suc f.less → m ≤ n * t → ((k : ℕ) → m ≤ k * t → n ≤ k) → IsCeiling n f s
ceiling_cut f m n s t ht h reach least = record {
  at_least = le_cancel t _ _ ht (omega (arith, h, mul-le-mul_right (suc f.less) reach));
  least = λ k le. least k (le_cancel (suc f.less) m (k * t) (omega arith) (omega (arith, h, mul-le-mul_right t le)));
}

pub ceiling_quotient : (f : Ratio) (m s k t : ℕ) → m < 10 ^ 18 → 0 < m → t ≡ 10 ^ min k 18 → (f.num * 10 ^ s) * 10 ^ k ≡ m * suc f.less → IsCeiling ((m - 1) / t + 1) f s
ceiling_quotient f m s k t few hm ht h = elim (cases_lt k 18) [
  | inl lt ↦ (let same : min k 18 ≡ k = omega (arith, lt) in let e : t ≡ 10 ^ k = ht ∙ ap (λ (n : ℕ). 10 ^ n) same in let positive : 0 < t = omega (arith, e, ten_pos k) in
      ceiling_cut f m ((m - 1) / t + 1) s t positive (rw e h) (omega (arith, lt-mul-div-succ (m - 1) positive)) (λ j le.
      let below : (m - 1) / t < j = (div-lt_iff_lt-mul positive).1 (omega (arith, le, hm)) in omega arith))
  | inr ge ↦ (let same : min k 18 ≡ 18 = omega (arith, ge) in let e : t ≡ 10 ^ 18 = ht ∙ ap (λ (n : ℕ). 10 ^ n) same in let one : (m - 1) / t + 1 ≡ 1 = rw e (omega (arith, few)) in
      rw one (ceiling_cut f m 1 s (10 ^ k) (ten_pos k) h (omega (arith, below_ten m k (k - 18) few (omega (arith, ge)))) (λ j le. some j le)))
]
  where
    some : (j : ℕ) → m ≤ j * 10 ^ k → 1 ≤ j
    some zero le = absurd (omega (arith, le, hm))
    some (suc j) le = omega arith

pub past_units : (m k : ℕ) → 0 < m → 38 < k → 2 ^ 126 ≤ m * 10 ^ k
past_units m k h lt = by_more (k - 39) (omega arith)
  where
    by_more : (j : ℕ) → k ≡ 39 + j → 2 ^ 126 ≤ m * 10 ^ k
    by_more j e = rw e (omega (arith, mul-le-mul h (ten_more 39 j)))

-- a whole number of units is its own floor and ceiling
pub whole_are : (up : Bool) (r : Option ℕ) (m s k : ℕ) (e : ℤ) → e +ℤ pos s ≡ pos k → MatchOption r (2 ^ 126 ≤ m * 10 ^ k) (λ n. (n ≡ m * 10 ^ k) × (n < 2 ^ 126)) → IsUnits up (scaled_ratio m e) s r
whole_are false None m s k e h p = reaches_whole (scaled_ratio m e) _ (m * 10 ^ k) s (whole_units m s k e h) p
whole_are false (Some n) m s k e h (is, p) = (floor_whole (scaled_ratio m e) n s (rw is (whole_units m s k e h)), p)
whole_are true None m s k e h p = passes_whole (scaled_ratio m e) _ (m * 10 ^ k) s (whole_units m s k e h) (omega (arith, p))
whole_are true (Some n) m s k e h (is, p) = (ceiling_whole (scaled_ratio m e) n s (rw is (whole_units m s k e h)), p)

pub nothing_is : (up : Bool) (m s : ℕ) (e : ℤ) → m ≡ 0 → IsUnits up (scaled_ratio m e) s (Some 0)
nothing_is false m s e h = (floor_zero _ s (num_nothing m e h), omega arith)
nothing_is true m s e h = (ceiling_zero _ s (num_nothing m e h), omega arith)
