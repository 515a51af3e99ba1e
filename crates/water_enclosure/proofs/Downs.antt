-- Branches between a cell and the full cell below it, in whole numbers: their conductance, and that flows keep the order of gentle heads.
use Rattle.water_enclosure.proofs.Common.{◌≡◌, ℕ, suc, ◌+◌, ◌*◌, ◌-◌, ◌<◌, ◌≤◌, ◌⊎◌, inl, inr, ℤ, pos, ◌-ℤ◌, ◌*ℤ◌, ◌≤ℤ◌, ap, sym, ◌∙◌, arith, mul-pos, mul-le-mul_left, ints, IsShare, Ratio, den}
use Rattle.water_enclosure.proofs.Common.{IsValue, own_value, value_over, value_plus, value_two, two}
use Rattle.pair_flows.proofs.Vertical.{falls_faster, rises_faster}
use Rattle.water_enclosure.proofs.Rows.{flows_in_order, share_some}
unfoldable use Rattle.decimal_input.specs.{over, Ratios.plus}

-- half of a cell's resistance: (s / 2) / k
abbrev pub half_way : Ratio → Ratio → Ratio
half_way s k = over (over s two) k

half_way_value : (s k : Ratio) → 0 < k.num → IsValue (half_way s k) (s.num * 1 * den k) (den s * 2 * k.num)
half_way_value s k some = value_over some (value_over (omega arith) (own_value s) value_two) (own_value k)

-- what the resistance comes to for each unit of the upper cell's thickness, and the rest of it, over one denominator
abbrev pub per_unit : Ratio → Ratio → Ratio → ℕ
per_unit k bed k' = den k * den bed * (2 * k'.num)

abbrev pub rest : ℕ → Ratio → Ratio → Ratio → ℕ → ℕ
rest M k bed k' S' = bed.num * M * (2 * k.num) * (2 * k'.num) + S' * den k' * (2 * k.num) * den bed

abbrev pub whole_way : ℕ → Ratio → Ratio → Ratio → ℕ
whole_way M k bed k' = M * (2 * k.num) * den bed * (2 * k'.num)

way_cross : (an ad sn sd kd kn bn bd tn td jd jn S T M : ℕ) → sn * M ≡ S * sd → tn * M ≡ T * td →
    an * (sd * 2 * kn * bd * (td * 2 * jn)) * (ad * (kd * bd * (2 * jn) * S + (bn * M * (2 * kn) * (2 * jn) + T * jd * (2 * kn) * bd)))
    ≡ an * (M * (2 * kn) * bd * (2 * jn)) * (ad * (((sn * 1 * kd) * bd + bn * (sd * 2 * kn)) * (td * 2 * jn) + (tn * 1 * jd) * (sd * 2 * kn * bd)))
way_cross an ad sn sd kd kn bn bd tn td jd jn S T M e f =
    omega (arith, ap (λ (z : ℕ). z * (an * ad * (2 * kn) * bd * (2 * jn) * kd * bd * td * (2 * jn))) e, ap (λ (z : ℕ). z * (an * ad * (2 * kn) * bd * (2 * jn) * jd * sd * (2 * kn) * bd)) f)

pub way_share : (area s k bed s' k' : Ratio) (S S' M : ℕ) → 0 < k.num → 0 < k'.num → 0 < S → IsShare M s S → IsShare M s' S' →
    IsShare (den area * (per_unit k bed k' * S + rest M k bed k' S')) (over area (plus (plus (half_way s k) bed) (half_way s' k'))) (area.num * whole_way M k bed k')
way_share area s k bed s' k' S S' M some some' thick p p' =
    let wet = share_some M S s p thick in
    let sum = value_plus (value_plus (half_way_value s k some) (own_value bed)) (half_way_value s' k' some') in
    let whole = value_over (positive s.num k.less bed.less (bed.num * (den s * 2 * k.num)) (den s' * 2 * k'.num)
    (s'.num * 1 * den k' * (den s * 2 * k.num * den bed)) wet (mul-pos (mul-pos (omega arith) (omega arith)) some')) (own_value area) sum in
    record {
      is = ap (λ (z : ℕ). z * (den area * (per_unit k bed k' * S + rest M k bed k' S'))) whole.num
          ∙ way_cross area.num (den area) s.num (den s) (den k) k.num bed.num (den bed) s'.num (den s') (den k') k'.num S S' M p.is p'.is
          ∙ ap (λ (z : ℕ). area.num * whole_way M k bed k' * z) (sym whole.bottom);
    }
  where
    positive : (sn kd bd b t c : ℕ) → 0 < sn → 0 < t → 0 < (sn * 1 * suc kd * suc bd + b) * t + c
    positive sn kd bd b t c h k = omega (arith, mul-pos (mul-pos (mul-pos h (let e : 0 < suc kd = omega arith in e)) (let e : 0 < suc bd = omega arith in e)) k)

-- Into the upper cell i from the lower cell j: the head of i falls from zi to yi, that of j rises from zj to yj.
pub upper_flows_in_order : (U a r k S T : ℕ) (zi zj yi yj : ℤ) → yi ≤ℤ zi → zj ≤ℤ yj → T ≤ S → (pos S -ℤ pos T) ≤ℤ (zi -ℤ yi) → ((yi -ℤ yj) ≤ℤ pos T) ⊎ (T ≡ S) →
    ((pos U *ℤ (zj -ℤ zi)) *ℤ pos (a * (r * T + k))) ≤ℤ ((pos U *ℤ (yj -ℤ yi)) *ℤ pos (a * (r * S + k)))
upper_flows_in_order U a r k S T zi zj yi yj falls rises thinner part low =
    flows_in_order U U (a * (r * S + k)) (a * (r * T + k)) (zj -ℤ zi) (yj -ℤ yi) (omega (arith, ints, falls, rises))
    (λ d d' e e'. spread U a d d' (r * T + k) (r * S + k) (rises_faster r k S T d d' (S - T) (d' - d) (omega arith) (omega (arith, ints, e, e', falls, rises))))
    (λ d d' e e'. spread U a d' d (r * S + k) (r * T + k) (falls_faster r k T S d' d (S - T) (d - d') 0 (omega arith) (omega (arith, ints, e, e', falls, rises))
    (omega (arith, ints, e, e', part, falls, rises)) (elim low [
      | inl gentle ↦ inl (omega (arith, ints, gentle, e'))
      | inr stays ↦ inr (omega (arith, stays))
    ])))
  where
    spread : (U a d d' x y : ℕ) → (d * x) ≤ (d' * y) → U * d * (a * x) ≤ U * d' * (a * y)
    spread U a d d' x y h = omega (arith, mul-le-mul_left (U * a) h)

-- Into the lower cell i from the upper cell j.
pub lower_flows_in_order : (U a r k S T : ℕ) (zi zj yi yj : ℤ) → yi ≤ℤ zi → zj ≤ℤ yj → S ≤ T → (pos T -ℤ pos S) ≤ℤ (yj -ℤ zj) → ((zj -ℤ zi) ≤ℤ pos S) ⊎ (S ≡ T) →
    ((pos U *ℤ (zj -ℤ zi)) *ℤ pos (a * (r * T + k))) ≤ℤ ((pos U *ℤ (yj -ℤ yi)) *ℤ pos (a * (r * S + k)))
lower_flows_in_order U a r k S T zi zj yi yj falls rises thicker part low =
    flows_in_order U U (a * (r * S + k)) (a * (r * T + k)) (zj -ℤ zi) (yj -ℤ yi) (omega (arith, ints, falls, rises))
    (λ d d' e e'. spread U a d d' (r * T + k) (r * S + k) (falls_faster r k S T d d' (T - S) (d' - d) 0 (omega arith) (omega (arith, ints, e, e', falls, rises))
    (omega (arith, ints, e, e', part, falls, rises)) (elim low [
      | inl gentle ↦ inl (omega (arith, ints, gentle, e))
      | inr stays ↦ inr (omega (arith, stays))
    ])))
    (λ d d' e e'. spread U a d' d (r * S + k) (r * T + k) (rises_faster r k T S d' d (T - S) (d - d') (omega arith) (omega (arith, ints, e, e', falls, rises))))
  where
    spread : (U a d d' x y : ℕ) → (d * x) ≤ (d' * y) → U * d * (a * x) ≤ U * d' * (a * y)
    spread U a d d' x y h = omega (arith, mul-le-mul_left (U * a) h)
