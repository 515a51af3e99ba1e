use Rattle.decimal_input.proofs.Common.{◌≡◌, ℕ, ◌+◌, ◌-◌, ◌*◌, ◌/◌, ◌%◌, ◌<◌, ◌≤◌, ◌^◌, inl, inr, ap, arith, add-one, cases_lt, pow-add, mul-le-mul_left, mul-le-mul_right, pow-suc}
use Rattle.decimal_input.proofs.Powers.{ten_pos}

pub zeros_few : (n rest z : ℕ) → n ≡ rest * 10 ^ z → 0 < rest → n < 2 ^ 128 → z < 39
zeros_few n rest z h hr lt = elim (cases_lt z 39) [
  | inl k ↦ k
  | inr k ↦ absurd (past (z - 39) (omega arith))
]
  where
    past : (j : ℕ) → z ≡ 39 + j → ⊥
    past j e =
        let split : 10 ^ z ≡ 10 ^ 39 * 10 ^ j = rw e (pow-add 10 39 j) in
        let least : 1 * 10 ^ z ≤ rest * 10 ^ z = mul-le-mul_right (10 ^ z) hr in
        omega (arith, split, least, h, lt, mul-le-mul_left (10 ^ 39) (ten_pos j))

pub zero_off : (n rest z : ℕ) → n ≡ rest * 10 ^ z → rest % 10 ≡ 0 → n ≡ rest / 10 * 10 ^ (z + 1)
zero_off n rest z h e =
    let whole : rest ≡ rest / 10 * 10 = omega arith in
    let k : rest * 10 ^ z ≡ (rest / 10 * 10) * 10 ^ z = ap (λ (t : ℕ). t * 10 ^ z) whole in
    rw (add-one, pow-suc 10 z) (omega (arith, h, k))
