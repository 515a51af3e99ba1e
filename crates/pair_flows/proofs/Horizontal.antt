-- Horizontal branches: quotients are compared by products of whole numbers, with what is below another number written as that number less a rest.
use Rattle.pair_flows.proofs.Common.{◌≡◌, ℕ, ◌<◌, ◌≤◌, ◌+◌, ◌*◌, ◌-◌, ◌⊎◌, refl, arith, ap, ◌∙◌, inl, inr, cases_eq, GentleOrderLaw, GentleLaw, HasTwoSolutions, LowerHeadLaw, UpperHeadLaw}
use Rattle.pair_flows.proofs.Common.{half_conductance, horizontal_flow, saturated_thickness}
use Rattle.std.proofs.Math.Nat.{le_of_mul-le-mul_right, mul-le-mul_left}

-- the upper half x; the lower half a * b, of the saturated thickness b, which rises by t with its head, all of it wet
drop_all_wet : (x a b t e : ℕ) → (x * (t + e)) ≤ (b * (x + a * b)) → ((b + t) * e * (x + a * b)) ≤ (b * (t + e) * (x + a * (b + t)))
drop_all_wet x a b t e h = omega (arith, same x a b t e, mul-le-mul_left t h)
  where
    same : (x a b t e : ℕ) → b * (t + e) * (x + a * (b + t)) + t * (x * (t + e)) ≡ (b + t) * e * (x + a * b) + t * (b * (x + a * b)) + t * t * (x + a * b)
    same x a b t e = omega arith

-- and where w of it is wet
drop_part_wet : (x a b t w e : ℕ) → w ≤ t → ((x * (t + e)) ≤ (b * (x + a * b))) ⊎ (w ≡ 0) → ((b + w) * e * (x + a * b)) ≤ (b * (t + e) * (x + a * (b + w)))
drop_part_wet x a b t w e h low =
    let v = t - w in
    elim low [
      | inl fall ↦
          let s : t + e ≡ w + (v + e) = omega arith in
          let wet : ((b + w) * (v + e) * (x + a * b)) ≤ (b * (t + e) * (x + a * (b + w))) = rw s (drop_all_wet x a b w (v + e) (rw s at fall)) in
          omega (arith, less (b + w) e v (x + a * b), wet)
      | inr full ↦ rw full (same x a b t e)
    ]
  where
    less : (p e v q : ℕ) → (p * e * q) ≤ (p * (v + e) * q)
    less p e v q = omega arith

    same : (x a b t e : ℕ) → ((b + 0) * e * (x + a * b)) ≤ (b * (t + e) * (x + a * (b + 0)))
    same x a b t e = omega arith

-- the same, with the factor of both halves
pub lower_head_rises : (x k z z' d d' w t : ℕ) → z' ≡ z + w → d ≡ t + d' → w ≤ t → ((x * d) ≤ (z * (x + k * z))) ⊎ (w ≡ 0) → (x * (k * z') * d' * (x + k * z)) ≤ (x * (k * z) * d * (x + k * z'))
lower_head_rises x k z z' d d' w t wet drop part low = rw (wet, drop) (both_halves x k z t w d' (drop_part_wet x k z t w d' part (rw drop at low)))
  where
    both_halves : (x a b t w e : ℕ) → ((b + w) * e * (x + a * b)) ≤ (b * (t + e) * (x + a * (b + w))) → (x * (a * (b + w)) * e * (x + a * b)) ≤ (x * (a * b) * (t + e) * (x + a * (b + w)))
    both_halves x a b t w e h = omega (arith, mul-le-mul_left (x * a) h)

pub lower_head_law : LowerHeadLaw
lower_head_law u c a b b' rises below low =
    let w = saturated_thickness c b' - saturated_thickness c b in
    let thicker : saturated_thickness c b' ≡ saturated_thickness c b + w = omega arith in
    let drop : a - b ≡ b' - b + (a - b') = omega arith in
    let part : w ≤ (b' - b) = omega arith in
    lower_head_rises (half_conductance u a) c.per_unit (saturated_thickness c b) (saturated_thickness c b') (a - b) (a - b') w (b' - b) thicker drop part (elim low [
      | inl fall ↦ inl fall
      | inr full ↦ inr (omega arith)
    ])

pub gentle_law : GentleLaw
gentle_law u c a b gentle = omega (arith, mul-le-mul_left (half_conductance u a) gentle)

pub upper_head_rises : (x x' y d d' s t : ℕ) → x' ≡ x + s → d' ≡ d + t → (x * y * d * (x' + y)) ≤ (x' * y * d' * (x + y))
upper_head_rises x x' y d d' s t more drop = rw (more, drop) (products x y s d t)
  where
    products : (x y s d t : ℕ) → (x * y * d * (x + s + y)) ≤ ((x + s) * y * (d + t) * (x + y))
    products x y s d t = omega arith

pub upper_head_law : UpperHeadLaw
upper_head_law u c a a' b below rises =
    let w = saturated_thickness u a' - saturated_thickness u a in
    let thicker : saturated_thickness u a' ≡ saturated_thickness u a + w = omega arith in
    let more : half_conductance u a' ≡ half_conductance u a + u.per_unit * w = ap (λ (z : ℕ). u.per_unit * z) thicker ∙ apart u.per_unit (saturated_thickness u a) w in
    upper_head_rises (half_conductance u a) (half_conductance u a') (half_conductance c b) (a - b) (a' - b) (u.per_unit * w) (a' - a) more (omega arith)
  where
    apart : (k z w : ℕ) → k * (z + w) ≡ k * z + k * w
    apart k z w = omega arith

-- of three quotients in order the first is at most the last, where the middle one has a denominator above 0
pub quotients_in_order : (n₁ d₁ n₂ d₂ n₃ d₃ : ℕ) → (n₁ * d₂) ≤ (n₂ * d₁) → (n₂ * d₃) ≤ (n₃ * d₂) → 0 < d₂ → (n₁ * d₃) ≤ (n₃ * d₁)
quotients_in_order n₁ d₁ n₂ d₂ n₃ d₃ h k some = le_of_mul-le-mul_right (omega (arith, mul-le-mul_left d₃ h, mul-le-mul_left d₁ k)) some

pub gentle_order_law : GentleOrderLaw
gentle_order_law u c a a' b b' below rises falls gentle =
    let first = upper_head_law u c a a' b below rises in
    let second = lower_head_law u c a' b' b falls (omega arith) (elim gentle [ inl fall ↦ inl (gentle_law u c a' b' fall) | inr full ↦ inr full ]) in
    elim (cases_eq (half_conductance c b) 0) [
      | inl dry ↦ rw dry (none (half_conductance u a) (a - b) _ _)
      | inr wet ↦
          quotients_in_order (horizontal_flow u c a b).num (horizontal_flow u c a b).den (horizontal_flow u c a' b).num (horizontal_flow u c a' b).den
          (horizontal_flow u c a' b').num (horizontal_flow u c a' b').den first second (omega arith)
    ]
  where
    none : (x d p q : ℕ) → (x * 0 * d * p) ≤ q
    none x d p q = omega arith

pub pumped_cell_has_two : HasTwoSolutions
pumped_cell_has_two = record { high = refl; low = refl; high_is_gentle = inl (omega arith); low_is_steep = omega arith }

-- The same by thicknesses alone, whatever gives them: the upper half's rises from s to s', the lower half's falls from z to z', by no more
-- than the drop rises from d to d'; and the drop d' is gentle, or the lower thickness stays.
pub thicknesses_keep_order : (p q s s' z z' d d' : ℕ) → s ≤ s' → z' ≤ z → d ≤ d' → (z - z') ≤ (d' - d) → 0 < q * z → (d' ≤ z') ⊎ (z ≡ z') →
    (p * s * (q * z) * d * (p * s' + q * z')) ≤ (p * s' * (q * z') * d' * (p * s + q * z))
thicknesses_keep_order p q s s' z z' d d' up down more part some low =
    let rise = s' - s in
    let fall = z - z' in
    let thicker : p * s' ≡ p * s + p * rise = ap (λ (k : ℕ). p * k) (let e : s' ≡ s + rise = omega arith in e) ∙ apart p s rise in
    let first = upper_head_rises (p * s) (p * s') (q * z) d d (p * rise) 0 thicker (omega arith) in
    let second = lower_head_rises (p * s') q z' z d' d fall (d' - d) (omega arith) (omega arith) part (elim low [
      | inl gentle ↦ inl (omega (arith, mul-le-mul_left (p * s') gentle))
      | inr stays ↦ inr (omega arith)
    ]) in
    quotients_in_order (p * s * (q * z) * d) (p * s + q * z) (p * s' * (q * z) * d) (p * s' + q * z) (p * s' * (q * z') * d') (p * s' + q * z') first second (omega arith)
  where
    apart : (k z w : ℕ) → k * (z + w) ≡ k * z + k * w
    apart k z w = omega arith
