-- Magnitudes by their floors and ceilings.
use Rattle.number_limits.proofs.Common.{◌≡◌, ◌⊎◌, inl, inr, ℕ, ◌+◌, ◌*◌, ◌-◌, ◌^◌, ◌≤◌, ◌<◌, true, false, nat_le, sym, ◌∙◌, arith, leb-true, Ratio, ratio, IsCeiling, IsFloor, Passes, Reaches, den}
use Rattle.number_limits.proofs.Common.{AtMost, is_at_most, is_at_least}
use Rattle.std.proofs.{lemmas.Bool.Decides.leb_tells, Math.Nat.mul-le-mul_right}

abbrev Told : ℕ → ℕ → Type 0
Told a b = ((nat_le a b ≡ true) × (a ≤ b)) ⊎ ((nat_le a b ≡ false) × (b < a))

pub of_ceiling : (n k : ℕ) (f : Ratio) → IsCeiling n f 0 → nat_le n k ≡ is_at_most k f
unfolding is_at_most
of_ceiling n k f h = by_case (leb_tells n k) (leb_tells f.num (k * den f))
  where
    by_case : Told n k → Told f.num (k * den f) → nat_le n k ≡ nat_le f.num (k * den f)
    by_case (inl a) (inl b) = a.0 ∙ sym b.0
    by_case (inr a) (inr b) = a.0 ∙ sym b.0
    by_case (inl a) (inr b) = absurd (omega (arith, h.at_least, b.1, mul-le-mul_right (den f) a.1))
    by_case (inr a) (inl b) = absurd (omega (arith, a.1, h.least k (omega (arith, b.1))))

pub of_no_ceiling : (k : ℕ) (f : Ratio) → k < 2 ^ 32 → Passes (2 ^ 126 - 1) f 0 → false ≡ is_at_most k f
unfolding is_at_most
of_no_ceiling k f small h = by_case (leb_tells f.num (k * den f))
  where
    by_case : Told f.num (k * den f) → false ≡ nat_le f.num (k * den f)
    by_case (inr b) = sym b.0
    by_case (inl b) =
        let more : k * den f ≤ (2 ^ 126 - 1) * den f = mul-le-mul_right (den f) (omega (arith, small)) in
        absurd (omega (arith, h.pass, b.1, more))

pub of_floor : (n s : ℕ) (f : Ratio) → IsFloor n f s → nat_le 1 n ≡ is_at_least s f
unfolding is_at_least
of_floor n s f h = by_case (leb_tells 1 n) (leb_tells (den f) (f.num * 10 ^ s))
  where
    by_case : Told 1 n → Told (den f) (f.num * 10 ^ s) → nat_le 1 n ≡ nat_le (den f) (f.num * 10 ^ s)
    by_case (inl a) (inl b) = a.0 ∙ sym b.0
    by_case (inr a) (inr b) = a.0 ∙ sym b.0
    by_case (inl a) (inr b) =
        let more : 1 * den f ≤ n * den f = mul-le-mul_right (den f) a.1 in
        absurd (omega (arith, h.at_most, b.1, more))
    by_case (inr a) (inl b) =
        let more : (n + 1) * den f ≤ 1 * den f = mul-le-mul_right (den f) (omega (arith, a.1)) in
        absurd (omega (arith, h.next, b.1, more))

pub of_no_floor : (s : ℕ) (f : Ratio) → Reaches (2 ^ 126) f s → true ≡ is_at_least s f
unfolding is_at_least
of_no_floor s f h = by_case (leb_tells (den f) (f.num * 10 ^ s))
  where
    by_case : Told (den f) (f.num * 10 ^ s) → true ≡ nat_le (den f) (f.num * 10 ^ s)
    by_case (inl b) = sym b.0
    by_case (inr b) =
        let more : 1 * den f ≤ 2 ^ 126 * den f = mul-le-mul_right (den f) (omega arith) in
        absurd (omega (arith, h.reach, b.1, more))

pub at_least_thousandth : (f : Ratio) → is_at_least 3 f ≡ true → AtMost (ratio 1 1000) f
unfolding is_at_least ratio
at_least_thousandth f e =
    let h = leb-true (den f) (f.num * 10 ^ 3) e in
    record { cross = omega (arith, h) }

pub at_most_thousand : (f : Ratio) → is_at_most 1000 f ≡ true → AtMost f (ratio 1000 1)
unfolding is_at_most ratio
at_most_thousand f e =
    let h = leb-true f.num (1000 * den f) e in
    record { cross = omega (arith, h) }
