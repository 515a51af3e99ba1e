-- From whole numbers back to fractions.
use Rattle.water_enclosure.proofs.Common.{over_multiple, ◌≡◌, ℕ, ◌*◌, ◌<◌, ℤ, pos, ◌-ℤ◌, ◌*ℤ◌, ◌≤ℤ◌, arith, mul-pos, subst, le_over, IsOver-minus, IsOver-signed, IsOver-times, minus, Fraction, IsOver}
use Rattle.water_enclosure.proofs.Common.{IsShare, Ratio, as_fraction, AtMost, times}

-- two flows whose conductances are U over V and U' over V', over one denominator of their heads
pub flows_at_most : (C C' : Ratio) (U V U' V' M : ℕ) (f g f' g' : Fraction) (a b a' b' : ℤ) → IsShare V C U → IsShare V' C' U' → 0 < V → 0 < V' → 0 < M →
    IsOver M f a → IsOver M g b → IsOver M f' a' → IsOver M g' b' → ((pos U *ℤ (a -ℤ b)) *ℤ pos V') ≤ℤ ((pos U' *ℤ (a' -ℤ b')) *ℤ pos V) →
    AtMost (times (as_fraction C) (minus f g)) (times (as_fraction C') (minus f' g'))
flows_at_most C C' U V U' V' M f g f' g' a b a' b' p p' some some' more of og of' og' h =
    le_over (V * M * V') _ _ _ _ (mul-pos (mul-pos some more) some')
    (over_multiple (V * M) V' _ _ (IsOver-times V M _ _ _ _ (IsOver-signed V C U p) (IsOver-minus M f g a b of og)))
    (subst (λ (k : ℕ). IsOver k (times (as_fraction C') (minus f' g')) ((pos U' *ℤ (a' -ℤ b')) *ℤ pos V)) (turn V V' M)
    (over_multiple (V' * M) V _ _ (IsOver-times V' M _ _ _ _ (IsOver-signed V' C' U' p') (IsOver-minus M f' g' a' b' of' og'))))
    h
  where
    turn : (V V' M : ℕ) → V' * M * V ≡ V * M * V'
    turn V V' M = omega arith
