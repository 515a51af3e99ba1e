use Rattle.scaled_decimal.proofs.Common.{◌≡◌, ℕ, suc, ◌+◌, ◌*◌, ◌-◌, ◌≤◌, ◌<◌, ◌^◌, inl, inr, subst, arith, mul-le-mul, mul-le-mul_left, mul-le-mul_right, pow-suc, pow-add, cases_lt, ten_pos}
use Rattle.scaled_decimal.proofs.Common.{power_within, lt_cancel}

-- x units of 10 ^ (b + j) in units of 10 ^ b
coarse : (x m p q : ℕ) → x * (p * q) < (m + 1) * p → x * (p * q) ≤ m * p
coarse x m p q h =
    let k : x * q < m + 1 = lt_cancel p (x * q) (m + 1) (omega arith) in
    let le : x * q ≤ m = omega arith in
    omega (arith, mul-le-mul_right p le)

fine : (x m p q : ℕ) → x < 10 ^ 18 → 10 ^ 17 ≤ m → 0 < q → x * p ≤ m * (p * (q * 10))
fine x m p q hx hm hq = grind (arith, mul-le-mul, mul-le-mul_right)

-- no 18-digit x lies above m and below m + 1, where m has 18 digits or more
pub none_above_coarse : (x m b j : ℕ) → x * 10 ^ (b + j) < (m + 1) * 10 ^ b → x * 10 ^ (b + j) ≤ m * 10 ^ b
none_above_coarse x m b j = rw pow-add (coarse x m (10 ^ b) (10 ^ j))

pub none_above_fine : (x m a j : ℕ) → x < 10 ^ 18 → 10 ^ 17 ≤ m → x * 10 ^ a ≤ m * 10 ^ (a + suc j)
none_above_fine x m a j hx hm = rw (pow-add 10 a (suc j), pow-suc 10 j) (fine x m (10 ^ a) (10 ^ j) hx hm (ten_pos j))

by_power : (P : ℕ → ℕ → Type 0) → ((b j : ℕ) → P (b + j) b) → ((a j : ℕ) → P a (a + suc j)) → (a b : ℕ) → P a b
by_power P f g a b = elim (cases_lt a b) as (λ _. P a b) [
  | inl h ↦ (let e : a + suc (b - suc a) ≡ b = omega arith in let Q : ℕ → Type 0 = λ k. P a k in subst Q e (g a (b - suc a)))
  | inr h ↦ (let e : b + (a - b) ≡ a = omega arith in let Q : ℕ → Type 0 = λ k. P k b in subst Q e (f b (a - b)))
]

pub none_above : (x m a b : ℕ) → x < 10 ^ 18 → 10 ^ 17 ≤ m → x * 10 ^ a < (m + 1) * 10 ^ b → x * 10 ^ a ≤ m * 10 ^ b
none_above x m a b hx hm =
    by_power (λ a b. x * 10 ^ a < (m + 1) * 10 ^ b → x * 10 ^ a ≤ m * 10 ^ b) (none_above_coarse x m) (λ a j _. none_above_fine x m a j hx hm) a b

-- x units of 10 ^ (i + j) reach past p, so at least m units of 10 ^ j
reaching : (x p m u v b : ℕ) → ((y : ℕ) → p < y * u → m ≤ y) → p * b < x * (b * (u * v)) → (m * u) * b ≤ x * (b * (u * v))
reaching x p m u v b least h =
    let k : p < x * v * u = lt_cancel b p (x * v * u) (omega arith) in
    let le : m ≤ x * v = least (x * v) k in
    omega (arith, mul-le-mul_right (u * b) le)

too_fine : (x p u v b : ℕ) → x < 10 ^ 18 → 10 ^ 17 * (u * (v * 10)) ≤ p + 1 → 0 < v → p * b < x * (b * u) → ⊥
too_fine x p u v b hx hp hv h =
    let k : p < x * u = lt_cancel b p (x * u) (omega arith) in
    let one : 1 ≤ v = omega arith in
    let least : 10 ^ 17 * 10 * u * 1 ≤ 10 ^ 17 * 10 * u * v = mul-le-mul_left (10 ^ 17 * 10 * u) one in
    let most : x * u ≤ (10 ^ 18 - 1) * u = mul-le-mul_right u (omega arith) in
    omega (arith, k, least, most, hp)

finer : (x p a v : ℕ) → x < 10 ^ 18 → 10 ^ 17 ≤ p → 0 < v → p * (a * (v * 10)) < x * a → ⊥
finer x p a v hx hp hv h = grind (arith, lt_cancel, mul-le-mul)

reach_coarse : (x p m b j i : ℕ) → ((y : ℕ) → p < y * 10 ^ j → m ≤ y) → p * 10 ^ b < x * 10 ^ (b + (j + i)) → m * 10 ^ j * 10 ^ b ≤ x * 10 ^ (b + (j + i))
reach_coarse x p m b j i least = rw (pow-add 10 b (j + i), pow-add 10 j i) (reaching x p m (10 ^ j) (10 ^ i) (10 ^ b) least)

reach_between : (x p b i k : ℕ) → x < 10 ^ 18 → 10 ^ 17 * 10 ^ (i + suc k) ≤ p + 1 → p * 10 ^ b < x * 10 ^ (b + i) → ⊥
reach_between x p b i k hx hp h = grind (arith, too_fine, pow-add, pow-suc, ten_pos)

reach_fine : (x p a k : ℕ) → x < 10 ^ 18 → 10 ^ 17 ≤ p → p * 10 ^ (a + suc k) < x * 10 ^ a → ⊥
reach_fine x p a k hx hp h = finer x p (10 ^ a) (10 ^ k) hx hp (ten_pos k) (rw (pow-add 10 a (suc k), pow-suc 10 k) at h)

-- an 18-digit x above p units is at least m units of 10 ^ j, the least that reach past p
pub none_below : (x p m j a b : ℕ) → x < 10 ^ 18 → 10 ^ 17 ≤ p → 10 ^ 17 * 10 ^ j ≤ p + 1 → ((y : ℕ) → p < y * 10 ^ j → m ≤ y) → p * 10 ^ b < x * 10 ^ a → m * 10 ^ j * 10 ^ b ≤ x * 10 ^ a
none_below x p m j a b hx hp hj least =
    by_power (λ a b. p * 10 ^ b < x * 10 ^ a → m * 10 ^ j * 10 ^ b ≤ x * 10 ^ a)
    (λ b i. by_power (λ i j. 10 ^ 17 * 10 ^ j ≤ p + 1 → ((y : ℕ) → p < y * 10 ^ j → m ≤ y) → p * 10 ^ b < x * 10 ^ (b + i) → m * 10 ^ j * 10 ^ b ≤ x * 10 ^ (b + i))
    (λ j i _ least. reach_coarse x p m b j i least)
    (λ i k hj _ h. absurd (reach_between x p b i k hx hj h)) i j hj least)
    (λ a k h. absurd (reach_fine x p a k hx hp h)) a b

-- an 18-digit number is below each power from 10 ^ 18 on
pub below_ten : (n k : ℕ) → n < 10 ^ 18 → 18 ≤ k → n < 10 ^ k
below_ten n k h le = omega (arith, power_within 18 k le)

pub few_places : (j m n : ℕ) → 10 ^ j ≤ m → m < 10 ^ n → j < n
few_places j m n h lt = grind (arith, cases_lt, power_within)

-- a number of 128 bits has at most 39 digits
pub places_below : (p : ℕ) → 10 ^ 17 * 10 ^ p ≤ 2 ^ 128 → p < 22
places_below p h = elim (cases_lt p 22) [
  | inl k ↦ k
  | inr k ↦ absurd (omega (arith, power_within 22 p k, h))
]

pub power_pos : (u j : ℕ) → u ≡ 10 ^ j → 0 < u
power_pos u j h = omega (arith, h, ten_pos j)
