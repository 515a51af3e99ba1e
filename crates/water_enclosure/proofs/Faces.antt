-- Over each face of a cell the flow keeps the order of gentle heads: into cell i, whose head doesn't rise, from a neighbour j, whose head doesn't fall, it doesn't fall.
use Rattle.water_enclosure.proofs.Common.{◌≡◌, ℕ, zero, suc, refl, ◌+◌, ◌-ℤ◌, ◌*◌, ◌<◌, ◌⊎◌, inl, inr, true, false, ℤ, pos, ◌≤ℤ◌, ap, sym, ◌∙◌, subst, arith, mul-pos, cases_Bool, or_left, or_right}
use Rattle.water_enclosure.proofs.Common.{ints, over_le, minus, ◌||◌, AtMost-trans, Fraction, IsShare, Ratio, as_fraction, number, size, AtMost, times, den, times-positive, Axis, Column, Row}
use Rattle.water_enclosure.proofs.Common.{Vertical, FlowModel, IsModel, bed_thickness, bottom_at, cell_count, delc_at, delr_at, hani_at, hk_at, is_active, layer_size, stride, top_at, two}
use Rattle.water_enclosure.proofs.Common.{vertical_conductivity, vkcb_at, ConvertibleLayers, FallsGently, FallsWithin, IsFull, branch, is_convertible}
use Rattle.decimal_input.specs.Ratios.{times as product, plus as ratio_plus}
use Rattle.water_enclosure.proofs.{Cells.conductivity_some, Cells.delc_some, Cells.delr_some, Cells.factor_some, Cells.hani_some, Cells.hk_some, Cells.tops_below, Downs.half_way}
use Rattle.water_enclosure.proofs.{Downs.lower_flows_in_order, Downs.per_unit, Downs.rest, Downs.upper_flows_in_order, Downs.way_share, Downs.whole_way, Fractions.flows_at_most, Pairs.ArePair}
use Rattle.water_enclosure.proofs.{Pairs.IsWetCell, Pairs.into, Pairs.out, Pairs.share_g, Pairs.share_h, Pairs.some_g, Pairs.some_h, Pairs.thick_g, Pairs.thick_h, Pairs.thicker, Pairs.thicker_within}
use Rattle.water_enclosure.proofs.{Pairs.thinner, Pairs.thinner_within, Rows.part, Rows.row_flows_in_order, Rows.series_share, Thick.thick, Thick.thick_stays, Thick.thick_to_bottom}
unfoldable use Rattle.decimal_input.specs.{over}
unfoldable use Rattle.model_types.specs.{half, in_a_row}
unfoldable use Rattle.water_table.specs.{column_branch, row_branch, saturated_thickness, vertical_branch, vertical_part}

-- three resistances in series
abbrev series_of : Ratio → Ratio → Ratio → Ratio
series_of a b c = ratio_plus (ratio_plus a b) c

-- heads at or above the bottom of an upper cell u, at a cell l right below it
abbrev pub AreOverBottom : FlowModel → ConvertibleLayers → (ℕ → Fraction) → (ℕ → Fraction) → ℕ → ℕ → Type 0
AreOverBottom m w h g u l = (is_convertible m w u || is_convertible m w l) ≡ true → AtMost (number (bottom_at m u)) (h l) × AtMost (number (bottom_at m u)) (g l)

-- what a branch of two halves has for each unit of thickness, and its denominator
pub record IsSeries (p q E : ℕ) : Type 0 where
  pub some_p : 0 < p
  pub some_q : 0 < q
  pub some_E : 0 < E

module _ (m : FlowModel) (w : ConvertibleLayers) (valid : IsModel m) (h g : ℕ → Fraction) (i j : ℕ) (wet_i : IsWetCell m w h g i) (wet_j : IsWetCell m w h g j) (o : ArePair m w h g i j) where
  abbrev pub Si : ℕ
  Si = thick_h m w h g o.M i o.some o.here

  abbrev pub Ti : ℕ
  Ti = thick_g m w h g o.M i o.some o.here

  abbrev pub Sj : ℕ
  Sj = thick_h m w h g o.M j o.some o.there

  abbrev pub Tj : ℕ
  Tj = thick_g m w h g o.M j o.some o.there

  -- the flow into i does not fall, with a conductance C at the heads h and C' at g
  abbrev pub InOrder : Ratio → Ratio → Type 0
  InOrder C C' = AtMost (times (as_fraction C) (minus (h j) (h i))) (times (as_fraction C') (minus (g j) (g i)))

  abbrev pub IsInto : Type 0
  IsInto = ((o.there.y -ℤ o.here.y) ≤ℤ pos Ti) ⊎ (Si ≡ Ti)

  abbrev pub IsOut : Type 0
  IsOut = ((o.here.z -ℤ o.there.z) ≤ℤ pos Sj) ⊎ (Tj ≡ Sj)

  series_in_order : (p q E : ℕ) → IsSeries p q E → (C C' : Ratio) → IsShare ((p * Si + q * Sj) * E) C (p * Si * (q * Sj)) →
      IsShare ((p * Ti + q * Tj) * E) C' (p * Ti * (q * Tj)) → IsInto → IsOut → InOrder C C'
  series_in_order p q E some C C' share share' gently_in gently_out =
      let wet_h = mul-pos some.some_p (some_h m w h g o.M i o.some o.here) in
      let wet_g = mul-pos some.some_q (some_g m w h g o.M j o.some o.there) in
      let wet_g' = mul-pos some.some_p (some_g m w h g o.M i o.some o.here) in
      flows_at_most C C' (p * Si * (q * Sj)) ((p * Si + q * Sj) * E) (p * Ti * (q * Tj)) ((p * Ti + q * Tj) * E) o.M (h j) (h i) (g j) (g i) o.there.z o.here.z o.there.y o.here.y
      share share' (mul-pos (first_some _ (q * Sj) wet_h) some.some_E) (mul-pos (first_some _ (q * Tj) wet_g') some.some_E) o.some o.there.is_z o.here.is_z o.there.is_y o.here.is_y
      (row_flows_in_order p q E Si Sj Ti Tj o.here.z o.there.z o.here.y o.there.y o.falls o.rises
      (thinner m w h g o.M i o.some o.here o.falls) (thicker m w h g o.M j o.some o.there o.rises)
      (thinner_within m w h g o.M i o.some o.here o.falls) (thicker_within m w h g o.M j o.some o.there o.rises) wet_h wet_g gently_in gently_out)
    where
      first_some : (a b : ℕ) → 0 < a → 0 < a + b
      first_some a b k = omega (arith, k)

  -- a branch of two halves, of which i is the first
  first_half : (d v k d' v' k' : Ratio) → 0 < d.num → 0 < d'.num → 0 < (product (product two v) k).num → 0 < (product (product two v') k').num → IsInto → IsOut →
      InOrder (in_a_row (half d v k (saturated_thickness m w h i)) (half d' v' k' (saturated_thickness m w h j)))
      (in_a_row (half d v k (saturated_thickness m w g i)) (half d' v' k' (saturated_thickness m w g j)))
  first_half d v k d' v' k' long long' some some' =
      series_in_order (part d (product (product two v) k) d' (product (product two v') k'))
      (part d' (product (product two v') k') d (product (product two v) k))
      (d.num * den (product (product two v) k) * (d'.num * den (product (product two v') k')) * o.M) (record {
        some_p = mul-pos (mul-pos (omega arith) some) (mul-pos long' (omega arith));
        some_q = mul-pos (mul-pos (omega arith) some') (mul-pos long (omega arith));
        some_E = mul-pos (mul-pos (mul-pos long (omega arith)) (mul-pos long' (omega arith))) o.some;
      }) _ _
      (series_share d v k (saturated_thickness m w h i) d' v' k' (saturated_thickness m w h j) Si Sj o.M some some' long (some_h m w h g o.M i o.some o.here)
      (some_h m w h g o.M j o.some o.there) (share_h m w h g o.M i o.some o.here) (share_h m w h g o.M j o.some o.there))
      (series_share d v k (saturated_thickness m w g i) d' v' k' (saturated_thickness m w g j) Ti Tj o.M some some' long (some_g m w h g o.M i o.some o.here)
      (some_g m w h g o.M j o.some o.there) (share_g m w h g o.M i o.some o.here) (share_g m w h g o.M j o.some o.there))

  -- the same shares with the second half first
  turned : (P Q A B E : ℕ) (C : Ratio) → IsShare ((P * A + Q * B) * E) C (P * A * (Q * B)) → IsShare ((Q * B + P * A) * E) C (Q * B * (P * A))
  turned P Q A B E C s = record { is = ap (λ (x : ℕ). C.num * x) (sums P Q A B E) ∙ s.is ∙ ap (λ (x : ℕ). x * den C) (products P Q A B) }
    where
      sums : (P Q A B E : ℕ) → (Q * B + P * A) * E ≡ (P * A + Q * B) * E
      sums P Q A B E = omega arith

      products : (P Q A B : ℕ) → P * A * (Q * B) ≡ Q * B * (P * A)
      products P Q A B = omega arith

  -- a branch of two halves, of which i is the second
  second_half : (d v k d' v' k' : Ratio) → 0 < d.num → 0 < d'.num → 0 < (product (product two v) k).num → 0 < (product (product two v') k').num → IsInto → IsOut →
      InOrder (in_a_row (half d v k (saturated_thickness m w h j)) (half d' v' k' (saturated_thickness m w h i)))
      (in_a_row (half d v k (saturated_thickness m w g j)) (half d' v' k' (saturated_thickness m w g i)))
  second_half d v k d' v' k' long long' some some' =
      let P = part d (product (product two v) k) d' (product (product two v') k') in
      let Q = part d' (product (product two v') k') d (product (product two v) k) in
      let E = d.num * den (product (product two v) k) * (d'.num * den (product (product two v') k')) * o.M in
      series_in_order Q P E (record {
        some_p = mul-pos (mul-pos (omega arith) some') (mul-pos long (omega arith));
        some_q = mul-pos (mul-pos (omega arith) some) (mul-pos long' (omega arith));
        some_E = mul-pos (mul-pos (mul-pos long (omega arith)) (mul-pos long' (omega arith))) o.some;
      }) _ _
      (turned P Q Sj Si E _ (series_share d v k (saturated_thickness m w h j) d' v' k' (saturated_thickness m w h i) Sj Si o.M some some' long
      (some_h m w h g o.M j o.some o.there) (some_h m w h g o.M i o.some o.here) (share_h m w h g o.M j o.some o.there)
      (share_h m w h g o.M i o.some o.here)))
      (turned P Q Tj Ti E _ (series_share d v k (saturated_thickness m w g j) d' v' k' (saturated_thickness m w g i) Tj Ti o.M some some' long
      (some_g m w h g o.M j o.some o.there) (some_g m w h g o.M i o.some o.here) (share_g m w h g o.M j o.some o.there)
      (share_g m w h g o.M i o.some o.here)))

  active_hk_i : 0 < (size (hk_at m i)).num
  active_hk_i = hk_some m valid i wet_i.within wet_i.active

  active_hk_j : 0 < (size (hk_at m j)).num
  active_hk_j = hk_some m valid j wet_j.within wet_j.active

  along_i : 0 < (product (size (hk_at m i)) (size (hani_at m i))).num
  along_i = times-positive _ _ active_hk_i (hani_some m valid i wet_i.within wet_i.active)

  along_j : 0 < (product (size (hk_at m j)) (size (hani_at m j))).num
  along_j = times-positive _ _ active_hk_j (hani_some m valid j wet_j.within wet_j.active)

  row_first : IsInto → IsOut → InOrder (row_branch m (saturated_thickness m w h) i j) (row_branch m (saturated_thickness m w g) i j)
  unfolding row_branch
  row_first =
      let v = size (delc_at m i) in
      let some = factor_some v (size (hk_at m i)) (delc_some m valid i) active_hk_i in
      let some' = factor_some v (size (hk_at m j)) (delc_some m valid i) active_hk_j in
      first_half (size (delr_at m i)) v (size (hk_at m i)) (size (delr_at m j)) v (size (hk_at m j)) (delr_some m valid i) (delr_some m valid j) some some'

  row_second : IsInto → IsOut → InOrder (row_branch m (saturated_thickness m w h) j i) (row_branch m (saturated_thickness m w g) j i)
  unfolding row_branch
  row_second =
      let v = size (delc_at m j) in
      let some = factor_some v (size (hk_at m j)) (delc_some m valid j) active_hk_j in
      let some' = factor_some v (size (hk_at m i)) (delc_some m valid j) active_hk_i in
      second_half (size (delr_at m j)) v (size (hk_at m j)) (size (delr_at m i)) v (size (hk_at m i)) (delr_some m valid j) (delr_some m valid i) some some'

  column_first : IsInto → IsOut → InOrder (column_branch m (saturated_thickness m w h) i j) (column_branch m (saturated_thickness m w g) i j)
  unfolding column_branch
  column_first =
      let v = size (delr_at m i) in
      let k = product (size (hk_at m i)) (size (hani_at m i)) in
      let k' = product (size (hk_at m j)) (size (hani_at m j)) in
      first_half (size (delc_at m i)) v k (size (delc_at m j)) v k' (delc_some m valid i) (delc_some m valid j) (factor_some v k (delr_some m valid i) along_i)
      (factor_some v k' (delr_some m valid i) along_j)

  column_second : IsInto → IsOut → InOrder (column_branch m (saturated_thickness m w h) j i) (column_branch m (saturated_thickness m w g) j i)
  unfolding column_branch
  column_second =
      let v = size (delr_at m j) in
      let k = product (size (hk_at m j)) (size (hani_at m j)) in
      let k' = product (size (hk_at m i)) (size (hani_at m i)) in
      second_half (size (delc_at m j)) v k (size (delc_at m i)) v k' (delc_some m valid j) (delc_some m valid i) (factor_some v k (delr_some m valid j) along_j)
      (factor_some v k' (delr_some m valid j) along_i)

  unit_some : (k bed k' : Ratio) → 0 < k'.num → 0 < per_unit k bed k'
  unit_some k bed k' some = mul-pos (mul-pos (omega arith) (omega arith)) (mul-pos (omega arith) some)

  way_some : (a r S k : ℕ) → 0 < a → 0 < r → 0 < S → 0 < a * (r * S + k)
  way_some a r S k p q s = mul-pos p (let e : 0 < r * S = mul-pos q s in omega (arith, e))

  -- that the falls to i at the heads g, and to j at h, are gentle, or the head of j doesn't change
  abbrev pub FallsInto : Axis → Type 0
  FallsInto axis = FallsGently m w g i axis j

  abbrev pub FallsOut : Axis → Type 0
  FallsOut axis = FallsGently m w h j axis i ⊎ AtMost (g j) (h j)

  out_of : (IsFull m w h j ⊎ FallsWithin m w h j i) ⊎ AtMost (g j) (h j) → IsOut
  out_of (inl gently) = out m w h g i j o gently
  out_of (inr known) =
      let le = over_le o.M _ _ _ _ o.there.is_y o.there.is_z known in
      let back = o.rises in
      inr (ap (λ (x : ℤ). thick (is_convertible m w j) o.there.cell.T o.there.cell.B x) (let e : o.there.y ≡ o.there.z = omega (arith, ints, le, back) in e))

  -- i lies above j: j is full at both heads
  upper : 1 < m.grid.layers → Sj ≡ Tj → (is_convertible m w i ≡ true → o.here.cell.B ≤ℤ o.there.y) →
      InOrder (vertical_branch m (saturated_thickness m w h) i j) (vertical_branch m (saturated_thickness m w g) i j)
  unfolding vertical_branch vertical_part
  upper many same over_bottom =
      let area = product (size (delr_at m i)) (size (delc_at m i)) in
      let k = vertical_conductivity m i in
      let k' = vertical_conductivity m j in
      let bed = over (bed_thickness m i) (size (vkcb_at m i)) in
      let some = conductivity_some m valid i wet_i.within wet_i.active many in
      let some' = conductivity_some m valid j wet_j.within wet_j.active many in
      let U = area.num * whole_way o.M k bed k' in
      let r = per_unit k bed k' in
      let more = rest o.M k bed k' Sj in
      let wet_h = some_h m w h g o.M i o.some o.here in
      let wet_g = some_g m w h g o.M i o.some o.here in
      let share = way_share area (saturated_thickness m w h i) k bed (saturated_thickness m w h j) k' Si Sj o.M some some' wet_h
      (share_h m w h g o.M i o.some o.here) (share_h m w h g o.M j o.some o.there) in
      let share' = subst (λ (x : ℕ). IsShare (den area * (r * Ti + rest o.M k bed k' x))
      (over area (series_of (half_way (saturated_thickness m w g i) k) bed (half_way (saturated_thickness m w g j) k'))) U) (sym same)
      (way_share area (saturated_thickness m w g i) k bed (saturated_thickness m w g j) k' Ti Tj o.M some some' wet_g
      (share_g m w h g o.M i o.some o.here) (share_g m w h g o.M j o.some o.there)) in
      flows_at_most _ _ U (den area * (r * Si + more)) U (den area * (r * Ti + more)) o.M (h j) (h i) (g j) (g i) o.there.z o.here.z o.there.y o.here.y share share'
      (way_some (den area) r Si more (omega arith) (unit_some k bed k' some') wet_h)
      (way_some (den area) r Ti more (omega arith) (unit_some k bed k' some') wet_g) o.some o.there.is_z o.here.is_z o.there.is_y o.here.is_y
      (upper_flows_in_order U (den area) r more Si Ti o.here.z o.there.z o.here.y o.there.y o.falls o.rises (thinner m w h g o.M i o.some o.here o.falls)
      (thinner_within m w h g o.M i o.some o.here o.falls)
      (thick_to_bottom (is_convertible m w i) o.here.cell.T o.here.cell.B o.here.y o.here.z o.there.y o.here.cell.room o.here.wet_y over_bottom o.falls))

  -- i lies below j: i is full at both heads
  lower : 1 < m.grid.layers → Si ≡ Ti → (is_convertible m w j ≡ true → o.there.cell.B ≤ℤ o.here.z) →
      InOrder (vertical_branch m (saturated_thickness m w h) j i) (vertical_branch m (saturated_thickness m w g) j i)
  unfolding vertical_branch vertical_part
  lower many same over_bottom =
      let area = product (size (delr_at m j)) (size (delc_at m j)) in
      let k = vertical_conductivity m j in
      let k' = vertical_conductivity m i in
      let bed = over (bed_thickness m j) (size (vkcb_at m j)) in
      let some = conductivity_some m valid j wet_j.within wet_j.active many in
      let some' = conductivity_some m valid i wet_i.within wet_i.active many in
      let U = area.num * whole_way o.M k bed k' in
      let r = per_unit k bed k' in
      let more = rest o.M k bed k' Si in
      let wet_h = some_h m w h g o.M j o.some o.there in
      let wet_g = some_g m w h g o.M j o.some o.there in
      let share = way_share area (saturated_thickness m w h j) k bed (saturated_thickness m w h i) k' Sj Si o.M some some' wet_h
      (share_h m w h g o.M j o.some o.there) (share_h m w h g o.M i o.some o.here) in
      let share' = subst (λ (x : ℕ). IsShare (den area * (r * Tj + rest o.M k bed k' x))
      (over area (series_of (half_way (saturated_thickness m w g j) k) bed (half_way (saturated_thickness m w g i) k'))) U) (sym same)
      (way_share area (saturated_thickness m w g j) k bed (saturated_thickness m w g i) k' Tj Ti o.M some some' wet_g
      (share_g m w h g o.M j o.some o.there) (share_g m w h g o.M i o.some o.here)) in
      flows_at_most _ _ U (den area * (r * Sj + more)) U (den area * (r * Tj + more)) o.M (h j) (h i) (g j) (g i) o.there.z o.here.z o.there.y o.here.y share share'
      (way_some (den area) r Sj more (omega arith) (unit_some k bed k' some') wet_h)
      (way_some (den area) r Tj more (omega arith) (unit_some k bed k' some') wet_g) o.some o.there.is_z o.here.is_z o.there.is_y o.here.is_y
      (lower_flows_in_order U (den area) r more Sj Tj o.here.z o.there.z o.here.y o.there.y o.falls o.rises (thicker m w h g o.M j o.some o.there o.rises)
      (thicker_within m w h g o.M j o.some o.there o.rises)
      (thick_to_bottom (is_convertible m w j) o.there.cell.T o.there.cell.B o.there.z o.there.y o.here.z o.there.cell.room o.there.wet_z over_bottom o.rises))

  -- the lower cell of two is full where its head is at or above the upper one's bottom
  full_there : (AtMost (number (top_at m j)) (h j) × AtMost (number (top_at m j)) (g j)) ⊎ (is_convertible m w j ≡ false) → Sj ≡ Tj
  full_there (inl (a, b)) = thick_stays (is_convertible m w j) o.there.cell.T o.there.cell.B o.there.z o.there.y
      (inr (over_le o.M _ _ _ _ o.there.cell.top o.there.is_z a)) (inr (over_le o.M _ _ _ _ o.there.cell.top o.there.is_y b))
  full_there (inr e) = thick_stays (is_convertible m w j) o.there.cell.T o.there.cell.B o.there.z o.there.y (inl e) (inl e)

  full_here : (AtMost (number (top_at m i)) (h i) × AtMost (number (top_at m i)) (g i)) ⊎ (is_convertible m w i ≡ false) → Si ≡ Ti
  full_here (inl (a, b)) = thick_stays (is_convertible m w i) o.here.cell.T o.here.cell.B o.here.z o.here.y
      (inr (over_le o.M _ _ _ _ o.here.cell.top o.here.is_z a)) (inr (over_le o.M _ _ _ _ o.here.cell.top o.here.is_y b))
  full_here (inr e) = thick_stays (is_convertible m w i) o.here.cell.T o.here.cell.B o.here.z o.here.y (inl e) (inl e)

  full_below : (u l : ℕ) → l ≡ u + layer_size m.grid → l < cell_count m.grid → is_active m u ≡ true → is_active m l ≡ true → AreOverBottom m w h g u l →
      (AtMost (number (top_at m l)) (h l) × AtMost (number (top_at m l)) (g l)) ⊎ (is_convertible m w l ≡ false)
  full_below u l e lt upper lower heads =
      let low : AtMost (number (top_at m l)) (number (bottom_at m u)) = subst (λ (x : ℕ). AtMost (number (top_at m x)) (number (bottom_at m u))) (sym e)
      (tops_below m valid u (omega (arith, e, lt)) upper (subst (λ (x : ℕ). is_active m x ≡ true) e lower)) in
      elim (cases_Bool (is_convertible m w l)) [
        | inl converts ↦ let (a, b) = heads (or_right (is_convertible m w u) (is_convertible m w l) converts) in inl (AtMost-trans low a, AtMost-trans low b)
        | inr none ↦ inr none
      ]

  many_layers : (u l : ℕ) → l ≡ u + layer_size m.grid → l < cell_count m.grid → 1 < m.grid.layers
  many_layers u l e lt = by_layers m.grid.layers (layer_size m.grid) u (omega (arith, e, lt))
    where
      by_layers : (n s u : ℕ) → u + s < n * s → 1 < n
      by_layers zero s u k = absurd (omega (arith, k))
      by_layers (suc zero) s u k = absurd (omega (arith, k))
      by_layers (suc (suc n)) s u k = omega arith

  -- the flow into i over a face between the two
  pub over_before : (axis : Axis) → i ≡ j + stride m.grid axis → FallsInto axis → FallsOut axis → (axis ≡ Vertical → AreOverBottom m w h g j i) →
      InOrder (branch m (saturated_thickness m w h) axis j) (branch m (saturated_thickness m w g) axis j)
  over_before Row e gently out_gently over =
      subst (λ (x : ℕ). InOrder (row_branch m (saturated_thickness m w h) j x) (row_branch m (saturated_thickness m w g) j x)) e
      (row_second (into m w h g i j o gently) (out_of out_gently))
  over_before Column e gently out_gently over =
      subst (λ (x : ℕ). InOrder (column_branch m (saturated_thickness m w h) j x) (column_branch m (saturated_thickness m w g) j x)) e
      (column_second (into m w h g i j o gently) (out_of out_gently))
  over_before Vertical e gently out_gently over =
      subst (λ (x : ℕ). InOrder (vertical_branch m (saturated_thickness m w h) j x) (vertical_branch m (saturated_thickness m w g) j x)) e
      (lower (many_layers j i e wet_i.within) (full_here (full_below j i e wet_i.within wet_j.active wet_i.active (over refl)))
      (λ converts. over_le o.M _ _ _ _ o.there.cell.bottom o.here.is_z ((over refl) (or_left (is_convertible m w j) (is_convertible m w i) converts)).0))

  pub over_after : (axis : Axis) → j ≡ i + stride m.grid axis → FallsInto axis → FallsOut axis → (axis ≡ Vertical → AreOverBottom m w h g i j) →
      InOrder (branch m (saturated_thickness m w h) axis i) (branch m (saturated_thickness m w g) axis i)
  over_after Row e gently out_gently over =
      subst (λ (x : ℕ). InOrder (row_branch m (saturated_thickness m w h) i x) (row_branch m (saturated_thickness m w g) i x)) e
      (row_first (into m w h g i j o gently) (out_of out_gently))
  over_after Column e gently out_gently over =
      subst (λ (x : ℕ). InOrder (column_branch m (saturated_thickness m w h) i x) (column_branch m (saturated_thickness m w g) i x)) e
      (column_first (into m w h g i j o gently) (out_of out_gently))
  over_after Vertical e gently out_gently over =
      subst (λ (x : ℕ). InOrder (vertical_branch m (saturated_thickness m w h) i x) (vertical_branch m (saturated_thickness m w g) i x)) e
      (upper (many_layers i j e wet_j.within) (full_there (full_below i j e wet_j.within wet_i.active wet_j.active (over refl)))
      (λ converts. over_le o.M _ _ _ _ o.here.cell.bottom o.there.is_y ((over refl) (or_left (is_convertible m w i) (is_convertible m w j) converts)).1))
