-- Branches whose cells have thicknesses that are alike have conductances that are alike.
use Rattle.gentle_histories.proofs.Common.{◌≡◌, ℕ, zero, suc, ◌+◌, ◌*◌, ◌<◌, ◌≤◌, true, arith, Ratio, over, size, FlowModel, Column, Row, Vertical, IsModel, bed_thickness, cell_count, delc_at}
use Rattle.gentle_histories.proofs.Common.{delr_at, hani_at, hk_at, is_active, layer_size, one, stride, two, vertical_conductivity, vkcb_at, branch, value_two, conductivity_some, delc_some, delr_some}
use Rattle.gentle_histories.proofs.Common.{factor_some, hani_some, hk_some}
use Rattle.decimal_input.specs.Ratios.{times}
use Rattle.decimal_input.proofs.SameNumbers.{over-positive, plus-positive, times-positive}
use Rattle.model_types.specs.declared.face.Axis.{Axis}
use Rattle.gentle_histories.proofs.Grows.{AreAlike, alike_itself, alike_over, alike_plus, alike_times, alike_under}
unfoldable use Rattle.model_types.specs.{half, in_a_row}
unfoldable use Rattle.water_table.specs.{column_branch, row_branch, vertical_branch, vertical_part}

-- an active cell of the grid
pub record IsCell (m : FlowModel) (c : ℕ) : Type 0 where
  pub within : c < cell_count m.grid
  pub active : is_active m c ≡ true

-- two thicknesses that are above 0 and alike
pub record AreThicknesses (a b : ℕ) (s t : Ratio) : Type 0 where
  pub some : 0 < s.num
  pub more : 0 < t.num
  pub alike : AreAlike a b s t

module _ (a b : ℕ) where
  half_alike : (d v k s t : Ratio) → 0 < (times (times two v) k).num → AreThicknesses a b s t → AreAlike a b (half d v k s) (half d v k t)
  unfolding half
  half_alike d v k s t long p = alike_over a b d _ _ (times-positive _ s long p.some) (times-positive _ t long p.more) (alike_times a b (times (times two v) k) s t p.alike)

  half_some : (d v k s : Ratio) → 0 < d.num → 0 < (half d v k s).num
  unfolding half
  half_some d v k s some = over-positive d _ some

  halves_alike : (d v k s t d' v' k' s' t' : Ratio) → 0 < d.num → 0 < (times (times two v) k).num → 0 < (times (times two v') k').num → AreThicknesses a b s t →
      AreThicknesses a b s' t' → AreAlike a b (in_a_row (half d v k s) (half d' v' k' s')) (in_a_row (half d v k t) (half d' v' k' t'))
  unfolding in_a_row
  halves_alike d v k s t d' v' k' s' t' long some more p q =
      alike_over a b one _ _ (plus-positive (half d v k s) _ (half_some d v k s long)) (plus-positive (half d v k t) _ (half_some d v k t long))
      (alike_plus a b _ _ _ _ (half_alike d v k s t some p) (half_alike d' v' k' s' t' more q))

module _ (m : FlowModel) (valid : IsModel m) (a b : ℕ) (le : b ≤ a) (s t : ℕ → Ratio) where
  module _ (i j : ℕ) (here : IsCell m i) (there : IsCell m j) (p : AreThicknesses a b (s i) (t i)) (q : AreThicknesses a b (s j) (t j)) where
    row_alike : AreAlike a b (row_branch m s i j) (row_branch m t i j)
    unfolding row_branch
    row_alike =
        let v = size (delc_at m i) in
        halves_alike a b (size (delr_at m i)) v (size (hk_at m i)) (s i) (t i) (size (delr_at m j)) v (size (hk_at m j)) (s j) (t j) (delr_some m valid i)
        (factor_some v (size (hk_at m i)) (delc_some m valid i) (hk_some m valid i here.within here.active))
        (factor_some v (size (hk_at m j)) (delc_some m valid i) (hk_some m valid j there.within there.active)) p q

    column_alike : AreAlike a b (column_branch m s i j) (column_branch m t i j)
    unfolding column_branch
    column_alike =
        let v = size (delr_at m i) in
        let k = times (size (hk_at m i)) (size (hani_at m i)) in
        let k' = times (size (hk_at m j)) (size (hani_at m j)) in
        halves_alike a b (size (delc_at m i)) v k (s i) (t i) (size (delc_at m j)) v k' (s j) (t j) (delc_some m valid i)
        (factor_some v k (delr_some m valid i) (times-positive _ _ (hk_some m valid i here.within here.active) (hani_some m valid i here.within here.active)))
        (factor_some v k' (delr_some m valid i) (times-positive _ _ (hk_some m valid j there.within there.active) (hani_some m valid j there.within there.active))) p q

    two_some : 0 < two.num
    two_some = let e = (value_two).num in omega (arith, e)

    part_alike : (c : ℕ) → 0 < (vertical_conductivity m c).num → AreThicknesses a b (s c) (t c) → AreAlike a b (vertical_part m s c) (vertical_part m t c)
    unfolding vertical_part
    part_alike c some r = alike_under a b (vertical_conductivity m c) (over (s c) two) (over (t c) two) some (alike_under a b two (s c) (t c) two_some r.alike)

    part_some : (z : ℕ → Ratio) → 0 < (z i).num → 0 < (vertical_part m z i).num
    unfolding vertical_part
    part_some z some = over-positive _ _ (over-positive (z i) two some)

    vertical_alike : 1 < m.grid.layers → AreAlike a b (vertical_branch m s i j) (vertical_branch m t i j)
    unfolding vertical_branch
    vertical_alike many =
        let bed = over (bed_thickness m i) (size (vkcb_at m i)) in
        alike_over a b (times (size (delr_at m i)) (size (delc_at m i))) _ _ (plus-positive _ _ (plus-positive _ bed (part_some s p.some)))
        (plus-positive _ _ (plus-positive _ bed (part_some t p.more)))
        (alike_plus a b _ _ _ _ (alike_plus a b _ _ _ _ (part_alike i (conductivity_some m valid i here.within here.active many) p) (alike_itself a b bed le))
        (part_alike j (conductivity_some m valid j there.within there.active many) q))

  many_layers : (u : ℕ) → u + layer_size m.grid < cell_count m.grid → 1 < m.grid.layers
  many_layers u lt = by_layers m.grid.layers (layer_size m.grid) u lt
    where
      by_layers : (n s u : ℕ) → u + s < n * s → 1 < n
      by_layers zero s u k = absurd (omega (arith, k))
      by_layers (suc zero) s u k = absurd (omega (arith, k))
      by_layers (suc (suc n)) s u k = omega arith

  pub branch_alike : (axis : Axis) (i : ℕ) → IsCell m i → IsCell m (i + stride m.grid axis) → AreThicknesses a b (s i) (t i) →
      AreThicknesses a b (s (i + stride m.grid axis)) (t (i + stride m.grid axis)) → AreAlike a b (branch m s axis i) (branch m t axis i)
  branch_alike Row i here there p q = row_alike i (i + stride m.grid Row) here there p q
  branch_alike Column i here there p q = column_alike i (i + stride m.grid Column) here there p q
  branch_alike Vertical i here there p q = vertical_alike i (i + stride m.grid Vertical) here there p q (many_layers i there.within)
