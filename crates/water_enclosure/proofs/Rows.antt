-- Branches of two halves in series, in whole numbers: their conductance, and that flows keep the order of gentle heads.
use Rattle.water_enclosure.proofs.Common.{◌≡◌, ℕ, suc, ◌+◌, ◌*◌, ◌-◌, ◌<◌, ◌≤◌, ◌⊎◌, inl, inr, ℤ, pos, negsuc, neg_ℤ, ◌-ℤ◌, ◌*ℤ◌, ◌≤ℤ◌, refl, ap, sym, ◌∙◌, arith, mul-pos, mul-le-mul_left, cases_eq}
use Rattle.water_enclosure.proofs.Common.{ints, neg_times, IsShare, Ratio, den, IsValue, own_value, value_one, value_over, value_plus, value_times, two, mul_neg}
use Rattle.pair_flows.proofs.Horizontal.{thicknesses_keep_order}
unfoldable use Rattle.decimal_input.specs.Ratios.{times}
unfoldable use Rattle.model_types.specs.{half, in_a_row}

-- Flows U * D over W, signed. Where D rises, they are in order if they are where both go one way.
signed : (z : ℤ) → ((d : ℕ) × (z ≡ pos d)) ⊎ ((d : ℕ) × (z ≡ neg_ℤ (pos d)))
signed (pos d) = inl (d, refl)
signed (negsuc d) = inr (suc d, refl)

in_both : (U U' W W' d d' : ℕ) → U * d * W' ≤ U' * d' * W → ((pos U *ℤ pos d) *ℤ pos W') ≤ℤ ((pos U' *ℤ pos d') *ℤ pos W)
in_both U U' W W' d d' h = omega (arith, ints, h)

out_both : (U U' W W' d d' : ℕ) → U' * d' * W ≤ U * d * W' → ((pos U *ℤ neg_ℤ (pos d)) *ℤ pos W') ≤ℤ ((pos U' *ℤ neg_ℤ (pos d')) *ℤ pos W)
out_both U U' W W' d d' h = rw (mul_neg (pos U) (pos d), mul_neg (pos U') (pos d'), neg_times (pos U *ℤ pos d) (pos W'), neg_times (pos U' *ℤ pos d') (pos W)) (omega (arith, ints, h))

out_in : (U U' W W' d d' : ℕ) → ((pos U *ℤ neg_ℤ (pos d)) *ℤ pos W') ≤ℤ ((pos U' *ℤ pos d') *ℤ pos W)
out_in U U' W W' d d' = rw (mul_neg (pos U) (pos d), neg_times (pos U *ℤ pos d) (pos W')) (omega (arith, ints))

pub flows_in_order : (U U' W W' : ℕ) (D D' : ℤ) → D ≤ℤ D' →
    ((d d' : ℕ) → D ≡ pos d → D' ≡ pos d' → U * d * W' ≤ U' * d' * W) →
    ((d d' : ℕ) → D ≡ neg_ℤ (pos d) → D' ≡ neg_ℤ (pos d') → U' * d' * W ≤ U * d * W') →
    ((pos U *ℤ D) *ℤ pos W') ≤ℤ ((pos U' *ℤ D') *ℤ pos W)
flows_in_order U U' W W' D D' le ins outs =
    elim (signed D) [
      | inl (d, e) ↦ elim (signed D') [
        | inl (d', e') ↦ rw (e, e') (in_both U U' W W' d d' (ins d d' e e'))
        | inr (d', e') ↦ let none : D' ≡ pos 0 = omega (arith, ints, le, e, e') in rw (e, none) (in_both U U' W W' d 0 (ins d 0 e none))
      ]
      | inr (d, e) ↦ elim (signed D') [
        | inl (d', e') ↦ rw (e, e') (out_in U U' W W' d d')
        | inr (d', e') ↦ rw (e, e') (out_both U U' W W' d d' (outs d d' e e'))
      ]
    ]

pub share_some : (M S : ℕ) (s : Ratio) → IsShare M s S → 0 < S → 0 < s.num
share_some M S s p some = elim (cases_eq s.num 0) [
  | inl e ↦ absurd (omega (arith, ap (λ (z : ℕ). z * M) e, p.is, mul-pos some (let k : 0 < den s = omega arith in k)))
  | inr e ↦ omega (arith, e)
]

-- The conductance of two halves in series. d / t is the resistance of a half for each unit of thickness.
half_value : (d w k s : Ratio) → 0 < (times (times two w) k).num → 0 < s.num →
    IsValue (half d w k s) (d.num * (den (times (times two w) k) * den s)) (den d * ((times (times two w) k).num * s.num))
unfolding half
half_value d w k s some more = value_over (mul-pos some more) (own_value d) (value_times (own_value (times (times two w) k)) (own_value s))

half_cross : (dn dd tn td sn sd S M q : ℕ) → sn * M ≡ S * sd → dn * (td * sd) * (dd * tn * q * S) ≡ dd * (tn * sn) * (dn * td * q * M)
half_cross dn dd tn td sn sd S M q e = omega (arith, ap (λ (z : ℕ). z * (dn * td * dd * tn * q)) e)

series_cross : (a x b y X Y E : ℕ) → a * X ≡ x * E → b * Y ≡ y * E → 1 * (x * y) * ((X + Y) * E) ≡ X * Y * (1 * (a * y + b * x))
series_cross a x b y X Y E p q = omega (arith, ap (λ (z : ℕ). z * (Y * y)) p, ap (λ (z : ℕ). z * (X * x)) q)

-- a half's share of the two, for each unit of thickness: one over its resistance, over the two resistances' product
abbrev pub part : Ratio → Ratio → Ratio → Ratio → ℕ
part d t d' t' = den d * t.num * (d'.num * den t')

pub series_share : (d w k s d' w' k' s' : Ratio) (S S' M : ℕ) → 0 < (times (times two w) k).num → 0 < (times (times two w') k').num → 0 < d.num → 0 < S → 0 < S' → IsShare M s S → IsShare M s' S' →
    IsShare ((part d (times (times two w) k) d' (times (times two w') k') * S + part d' (times (times two w') k') d (times (times two w) k) * S') *
    (d.num * den (times (times two w) k) * (d'.num * den (times (times two w') k')) * M))
    (in_a_row (half d w k s) (half d' w' k' s'))
    (part d (times (times two w) k) d' (times (times two w') k') * S * (part d' (times (times two w') k') d (times (times two w) k) * S'))
unfolding in_a_row
series_share d w k s d' w' k' s' S S' M some some' long thick thick' p p' =
    let wet = share_some M S s p thick in
    let wet' = share_some M S' s' p' thick' in
    let t = times (times two w) k in
    let t' = times (times two w') k' in
    let E = d.num * den t * (d'.num * den t') * M in
    let one_half = half_value d w k s some wet in
    let other = half_value d' w' k' s' some' wet' in
    let sum = value_plus one_half other in
    let a = half_cross d.num (den d) t.num (den t) s.num (den s) S M (d'.num * den t') p.is in
    let b : d'.num * (den t' * den s') * (den d' * t'.num * (d.num * den t) * S') ≡ den d' * (t'.num * s'.num) * E =
    half_cross d'.num (den d') t'.num (den t') s'.num (den s') S' M (d.num * den t) p'.is ∙ turn (den d' * (t'.num * s'.num)) (d'.num * den t')
    (d.num * den t) M in
    let whole = value_over (positive (d.num * (den t * den s)) (den d' * (t'.num * s'.num)) (d'.num * (den t' * den s')) (den d * (t.num * s.num))
    (mul-pos long (mul-pos (omega arith) (omega arith))) (mul-pos (omega arith) (mul-pos some' wet'))) value_one sum in
    record {
      is = ap (λ (z : ℕ). z * ((part d t d' t' * S + part d' t' d t * S') * E)) whole.num
          ∙ series_cross (d.num * (den t * den s)) (den d * (t.num * s.num)) (d'.num * (den t' * den s')) (den d' * (t'.num * s'.num)) (part d t d' t' * S) (part d' t' d t * S') E a b
          ∙ ap (λ (z : ℕ). part d t d' t' * S * (part d' t' d t * S') * z) (sym whole.bottom);
    }
  where
    turn : (x a b M : ℕ) → x * (a * b * M) ≡ x * (b * a * M)
    turn x a b M = omega arith

    positive : (a y b x : ℕ) → 0 < a → 0 < y → 0 < a * y + b * x
    positive a y b x h k = omega (arith, mul-pos h k)

-- Into cell i from cell j: the head of i falls from zi to yi, that of j rises from zj to yj, with thicknesses S and T that go with them.
pub row_flows_in_order : (p q E Si Sj Ti Tj : ℕ) (zi zj yi yj : ℤ) → yi ≤ℤ zi → zj ≤ℤ yj → Ti ≤ Si → Sj ≤ Tj →
    (pos Si -ℤ pos Ti) ≤ℤ (zi -ℤ yi) → (pos Tj -ℤ pos Sj) ≤ℤ (yj -ℤ zj) → 0 < p * Si → 0 < q * Tj →
    ((yj -ℤ yi) ≤ℤ pos Ti) ⊎ (Si ≡ Ti) → ((zi -ℤ zj) ≤ℤ pos Sj) ⊎ (Tj ≡ Sj) →
    ((pos (p * Si * (q * Sj)) *ℤ (zj -ℤ zi)) *ℤ pos ((p * Ti + q * Tj) * E)) ≤ℤ ((pos (p * Ti * (q * Tj)) *ℤ (yj -ℤ yi)) *ℤ pos ((p * Si + q * Sj) * E))
row_flows_in_order p q E Si Sj Ti Tj zi zj yi yj falls rises thinner thicker part part' some some' into out =
    flows_in_order (p * Si * (q * Sj)) (p * Ti * (q * Tj)) ((p * Si + q * Sj) * E) ((p * Ti + q * Tj) * E) (zj -ℤ zi) (yj -ℤ yi) (omega (arith, ints, falls, rises))
    (λ d d' e e'. spread_in p q E Si Sj Ti Tj d d' (thicknesses_keep_order q p Sj Tj Si Ti d d' thicker thinner (omega (arith, ints, e, e', falls, rises))
    (omega (arith, ints, e, e', part, falls, rises)) some (elim into [
      | inl gentle ↦ inl (omega (arith, ints, gentle, e'))
      | inr stays ↦ inr stays
    ])))
    (λ d d' e e'. spread_out p q E Si Sj Ti Tj d d' (thicknesses_keep_order p q Ti Si Tj Sj d' d thinner thicker (omega (arith, ints, e, e', falls, rises))
    (omega (arith, ints, e, e', part', falls, rises)) some' (elim out [
      | inl gentle ↦ inl (omega (arith, ints, gentle, e))
      | inr stays ↦ inr stays
    ])))
  where
    spread_in : (p q E Si Sj Ti Tj d d' : ℕ) → (q * Sj * (p * Si) * d * (q * Tj + p * Ti)) ≤ (q * Tj * (p * Ti) * d' * (q * Sj + p * Si)) →
        p * Si * (q * Sj) * d * ((p * Ti + q * Tj) * E) ≤ p * Ti * (q * Tj) * d' * ((p * Si + q * Sj) * E)
    spread_in p q E Si Sj Ti Tj d d' h = omega (arith, mul-le-mul_left E h)

    spread_out : (p q E Si Sj Ti Tj d d' : ℕ) → (p * Ti * (q * Tj) * d' * (p * Si + q * Sj)) ≤ (p * Si * (q * Sj) * d * (p * Ti + q * Tj)) →
        p * Ti * (q * Tj) * d' * ((p * Si + q * Sj) * E) ≤ p * Si * (q * Sj) * d * ((p * Ti + q * Tj) * E)
    spread_out p q E Si Sj Ti Tj d d' h = omega (arith, mul-le-mul_left E h)
