-- Each half of a face resists less where HK is greater, so the face conducts more.
use Rattle.plan_conductances.proofs.Common.{times, ◌≡◌, ℕ, ◌+◌, ◌<◌, Bool, true, false, arith, cond, List, Ratio, over, ratio, size, ConductancesGrow, HasAtMost}
use Rattle.conductance_bounds.proofs.{FaceBounds.cell_below_means_layers, Ready.delc_positive, Ready.delr_positive, Sides.more_positive, Sides.size_positive, SpanBounds.thick_positive}
use Rattle.decimal_input.proofs.{Orders.AtMost-refl, Orders.over-AtMost, Orders.plus-AtMost, Orders.times-AtMost, SameNumbers.over-positive, SameNumbers.plus-positive, SameNumbers.times-positive}
use Rattle.decimal_input.specs.{declared.dec.Dec.Dec, Ratios.AtMost}
use Rattle.model_types.specs.{declared.face.Axis.TheVariants.Column, declared.face.Axis.TheVariants.Row, declared.face.Axis.TheVariants.Vertical, declared.model.FlowModel.FlowModel, IsModel}
use Rattle.model_types.specs.{bottom_at, cell_count, dec_at, delc_at, delr_at, hani_at, hk_at, is_active, is_ratio, layer_size, one, thickness, top_at, two, vka_at, column_conductance, half, in_a_row}
use Rattle.model_types.specs.{row_conductance, vertical_conductance, vertical_half}

two_some : 0 < two.num
unfolding ratio
two_some = omega arith

half_falls : (d w k l t : Ratio) → 0 < w.num → 0 < k.num → 0 < l.num → 0 < t.num → AtMost k l → AtMost (half d w l t) (half d w k t)
unfolding half
half_falls d w k l t some_w some_k some_l some_t h =
    over-AtMost (times-positive _ t (times-positive _ l (times-positive two w two_some some_w) some_l) some_t)
    (times-positive _ t (times-positive _ k (times-positive two w two_some some_w) some_k) some_t) (AtMost-refl d)
    (times-AtMost (times-AtMost (AtMost-refl (times two w)) h) (AtMost-refl t))

-- two halves in a row, each of which resists less
halves_grow : (w d k l t e h i u : Ratio) → 0 < w.num → 0 < d.num → 0 < k.num → 0 < l.num → 0 < t.num → 0 < h.num → 0 < i.num → 0 < u.num → AtMost k l → AtMost h i →
    AtMost (in_a_row (half d w k t) (half e w h u)) (in_a_row (half d w l t) (half e w i u))
unfolding in_a_row half
halves_grow w d k l t e h i u some_w some_d some_k some_l some_t some_h some_i some_u more also =
    over-AtMost (plus-positive _ _ (over-positive d _ some_d)) (plus-positive _ _ (over-positive d _ some_d)) (AtMost-refl one)
    (plus-AtMost (half_falls d w k l t some_w some_k some_l some_t more) (half_falls e w h i u some_w some_h some_i some_u also))

vertical_falls : (t k l : Ratio) → 0 < k.num → 0 < l.num → AtMost k l → AtMost (over (over t two) l) (over (over t two) k)
vertical_falls t k l some_k some_l h = over-AtMost some_l some_k (AtMost-refl (over t two)) h

conductivity_grows : (s : Bool) (h k v : Ratio) → 0 < v.num → AtMost h k → AtMost (cond s (over h v) v) (cond s (over k v) v)
conductivity_grows true h k v some le = over-AtMost some some le (AtMost-refl v)
conductivity_grows false h k v some le = AtMost-refl v

conductivity_some : (s : Bool) (h v : Ratio) → 0 < h.num → 0 < v.num → 0 < (cond s (over h v) v).num
conductivity_some true h v some_h some_v = over-positive h v some_h
conductivity_some false h v some_h some_v = some_v

module _ (m : FlowModel) (hk : List Dec) (valid : IsModel m) (more : HasAtMost m hk) where
  -- the same model with the greater HK
  abbrev n : FlowModel
  n = record m { hk = hk }

  -- the numbers of an active cell that a face asks for
  record IsReady (c : ℕ) : Type 0 where
    delr : 0 < (size (delr_at m c)).num
    delc : 0 < (size (delc_at m c)).num
    less : 0 < (size (hk_at m c)).num
    greater : 0 < (size (dec_at hk c)).num
    grows : AtMost (size (hk_at m c)) (size (dec_at hk c))
    hani : 0 < (size (hani_at m c)).num
    thick : 0 < (thickness m c).num
    vka : 1 < m.grid.layers → 0 < (size (vka_at m c)).num

  ready : (c : ℕ) → c < cell_count m.grid → is_active m c ≡ true → IsReady c
  ready c i active =
      let cell = valid.cells c i active in
      let some = size_positive (hk_at m c) cell.hk in
      record {
        delr = size_positive (delr_at m c) (delr_positive m c valid);
        delc = size_positive (delc_at m c) (delc_positive m c valid);
        less = some;
        greater = more_positive _ _ (more c i active) some;
        grows = more c i active;
        hani = size_positive (hani_at m c) cell.hani;
        thick = thick_positive (top_at m c) (bottom_at m c) cell.thick;
        vka = λ h. size_positive (vka_at m c) (cell.vka h);
      }

  row : (a b : ℕ) → IsReady a → IsReady b → AtMost (row_conductance m a b) (row_conductance n a b)
  unfolding row_conductance
  row a b p q =
      halves_grow _ _ _ _ _ _ _ _ _ p.delc p.delr p.less p.greater p.thick q.less q.greater q.thick p.grows q.grows

  column : (a b : ℕ) → IsReady a → IsReady b → AtMost (column_conductance m a b) (column_conductance n a b)
  unfolding column_conductance
  column a b p q =
      halves_grow _ _ _ _ _ _ _ _ _ p.delr p.delc (times-positive _ _ p.less p.hani) (times-positive _ _ p.greater p.hani) p.thick
      (times-positive _ _ q.less q.hani) (times-positive _ _ q.greater q.hani) q.thick (times-AtMost p.grows (AtMost-refl _)) (times-AtMost q.grows (AtMost-refl _))

  layer_half : (c : ℕ) → IsReady c → 1 < m.grid.layers → AtMost (vertical_half n c) (vertical_half m c) × (0 < (vertical_half m c).num) × (0 < (vertical_half n c).num)
  unfolding vertical_half
  layer_half c p layers =
      let v = p.vka layers in
      let less = conductivity_some (is_ratio m c) _ _ p.less v in
      let greater = conductivity_some (is_ratio m c) _ _ p.greater v in (
        vertical_falls (thickness m c) _ _ less greater (conductivity_grows (is_ratio m c) _ _ _ v p.grows),
        over-positive _ _ (over-positive _ _ p.thick),
        over-positive _ _ (over-positive _ _ p.thick),
      )

  vertical : (a b : ℕ) → IsReady a → IsReady b → 1 < m.grid.layers → AtMost (vertical_conductance m a b) (vertical_conductance n a b)
  unfolding vertical_conductance
  vertical a b p q layers =
      let above = layer_half a p layers in
      let below = layer_half b q layers in
      over-AtMost (plus-positive _ _ (plus-positive _ _ above.1)) (plus-positive _ _ (plus-positive _ _ above.2)) (AtMost-refl _)
      (plus-AtMost (plus-AtMost above.0 (AtMost-refl _)) below.0)

pub conductances_grow : ConductancesGrow
conductances_grow m hk valid more Row a lt x y =
    row m hk valid more a (a + 1) (ready m hk valid more a (omega (arith, lt)) x) (ready m hk valid more (a + 1) lt y)
conductances_grow m hk valid more Column a lt x y =
    column m hk valid more a (a + m.grid.cols) (ready m hk valid more a (omega (arith, lt)) x) (ready m hk valid more (a + m.grid.cols) lt y)
conductances_grow m hk valid more Vertical a lt x y =
    vertical m hk valid more a (a + layer_size m.grid) (ready m hk valid more a (omega (arith, lt)) x) (ready m hk valid more (a + layer_size m.grid) lt y)
    (cell_below_means_layers m.grid.layers (layer_size m.grid) a lt)
