-- Sizes of the blends of two heads.
use Rattle.conductance_bounds.proofs.Common.{◌≡◌, ℕ, suc, ◌*◌, ◌≤◌, ◌<◌, ◌^◌, arith, ap, ◌∙◌, ℤ, pos, negsuc, ◌*ℤ◌, int_min, int_max, w128, mul-le-mul_right, ints, clamps, IsNear, IsHeadUnits, blend}
use Rattle.conductance_bounds.proofs.Common.{ceiling_of, head_floor_of}
use Rattle.std.specs.Prelude.{FitsSigned}

pub share_within : (h : ℤ) (part : ℕ) → IsHeadUnits h → IsNear (h *ℤ pos part) (4000000000000000000 * part)
share_within (pos n) part h = let k : n * part ≤ 4000000000000000000 * part = mul-le-mul_right part (omega (arith, ints, h.below)) in record {
  above =
      omega (arith, ints, k);
  below = omega (arith, ints, k);
}
share_within (negsuc n) part h = let k : suc n * part ≤ 4000000000000000000 * part = mul-le-mul_right part (omega (arith, ints, h.above)) in record {
  above =
      omega (arith, ints, k);
  below = omega (arith, ints, k);
}

pub fits_within : (z : ℤ) (b : ℕ) → b < 2 ^ 127 → IsNear z b → FitsSigned w128 z
fits_within z b h w = omega (arith, ints, h, w.above, w.below)

pub min_within : (a b m : ℤ) (n : ℕ) → m ≡ int_min a b → IsNear a n → IsNear b n → IsNear m n
min_within a b m n e p q = record { above = omega (arith, ints, clamps, e, p.above, q.above); below = omega (arith, ints, clamps, e, p.below, q.below) }

pub max_within : (a b m : ℤ) (n : ℕ) → m ≡ int_max a b → IsNear a n → IsNear b n → IsNear m n
max_within a b m n e p q = record { above = omega (arith, ints, clamps, e, p.above, q.above); below = omega (arith, ints, clamps, e, p.below, q.below) }

-- the floor of the lesser blend
pub lesser : (s e x y m lo : ℤ) (f g : ℕ) → x ≡ blend s e f → y ≡ blend s e g → m ≡ int_min x y → lo ≡ head_floor_of m → lo ≡ head_floor_of (int_min (blend s e f) (blend s e g))
lesser s e x y m lo f g p q r h = h ∙ ap head_floor_of r ∙ (λ i. head_floor_of (int_min (p i) (q i)))

-- the ceiling of the greater one
pub greater : (s e x y m hi : ℤ) (f g : ℕ) → x ≡ blend s e f → y ≡ blend s e g → m ≡ int_max x y → hi ≡ ceiling_of m → hi ≡ ceiling_of (int_max (blend s e f) (blend s e g))
greater s e x y m hi f g p q r h = h ∙ ap ceiling_of r ∙ (λ i. ceiling_of (int_max (p i) (q i)))
