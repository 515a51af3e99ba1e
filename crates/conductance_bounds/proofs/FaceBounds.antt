-- The pair of a face's formula contains the manual's conductance of the face.
use Rattle.conductance_bounds.proofs.Common.{◌≡◌, ℕ, zero, suc, ◌+◌, ◌*◌, ◌<◌, inl, inr, true, cond, arith, ap, ◌∙◌, ℤ, pos, ◌-ℤ◌, ◌*ℤ◌, ◌==◌, unsigned_abs, cases_Bool, ints, number, size, Fraction}
use Rattle.conductance_bounds.proofs.Common.{FlowModel, cell_count, layer_size, gap, dec_at, is_active, has_bed, bottom_at, lowest, delr_at, delc_at, bed_thickness, hk_at, vka_at, vkcb_at, is_ratio}
use Rattle.conductance_bounds.proofs.Common.{row_conductance, column_conductance, vertical_half, vertical_conductance, conductance, IsModel, Number, Term, Within, face_term, column_k_term, thick_term}
use Rattle.conductance_bounds.proofs.Common.{span, stride, FacesEnclose, bed_span}
use Rattle.model_types.specs.{declared.face.Axis.Axis, declared.face.Axis.TheVariants.Row, declared.face.Axis.TheVariants.Column, declared.face.Axis.TheVariants.Vertical}
use Rattle.conductance_bounds.proofs.{Sides.exact_positive, Sides.product_is_factor, Sides.size_positive, Sides.within_is_factor, LayerBounds.IsLayerHalf, LayerBounds.IsBedded}
use Rattle.conductance_bounds.proofs.{LayerBounds.layers_give, LayerBounds.no_bed, LayerBounds.some_bed, Manual.Gives, Manual.term_pair_encloses, Manual.row_gives, Ready.IsReady, Ready.is_ready}
use Rattle.conductance_bounds.proofs.{SpanBounds.thick_positive, ThickBounds.span_positive, ThickBounds.thick_between}

pub none_between : (x : ℤ) → unsigned_abs (x -ℤ x) ≡ 0
none_between x = let e : x -ℤ x ≡ pos 0 = omega (arith, ints) in ap unsigned_abs e

pub no_gap : (f g : Fraction) → f ≡ g → (gap g f).num ≡ 0
no_gap f g e = ap (λ h. (gap g h).num) e ∙ none_between (g.num *ℤ pos (suc g.less))

-- two layers have a vertical conductivity
pub cell_below_means_layers : (layers size a : ℕ) → a + size < layers * size → 1 < layers
cell_below_means_layers zero size a h = absurd (omega (arith, h))
cell_below_means_layers (suc zero) size a h = absurd (omega (arith, h))
cell_below_means_layers (suc (suc k)) size a h = omega arith

module _ (m : FlowModel) where
  row_face : (a : ℕ) → IsReady m a → IsReady m (a + stride m.grid Row) → Gives (face_term m Row a) (conductance m Row a)
  unfolding row_conductance
  row_face a p q =
      row_gives _ _ (Number (size (hk_at m a))) (thick_term m a) _ (Number (size (hk_at m (a + stride m.grid Row)))) (thick_term m (a + stride m.grid Row))
      p.delc p.delr q.delr p.hk p.thick q.hk q.thick

  column_face : (a : ℕ) → IsReady m a → IsReady m (a + stride m.grid Column) → Gives (face_term m Column a) (conductance m Column a)
  unfolding column_conductance
  column_face a p q =
      row_gives _ _ (column_k_term m a) (thick_term m a) _ (column_k_term m (a + stride m.grid Column)) (thick_term m (a + stride m.grid Column))
      p.delr p.delc q.delc (product_is_factor p.hk p.hani) p.thick (product_is_factor q.hk q.hani) q.thick

  abbrev bed_thick_term : ℕ → Term
  bed_thick_term a = Within (bed_span m a).lo (bed_span m a).hi (bed_thickness m a)

  layer_half : (c : ℕ) → IsReady m c → 0 < (size (vka_at m c)).num → IsLayerHalf (size (hk_at m c)) (size (vka_at m c)) (thick_term m c)
  layer_half c p v = record { hk = exact_positive p.hk; vka = v; thick = p.thick }

  vertical_face : (a : ℕ) → IsReady m a → IsReady m (a + stride m.grid Vertical) → 0 < (size (vka_at m a)).num → 0 < (size (vka_at m (a + stride m.grid Vertical))).num →
      IsBedded ((bed_thickness m a).num == 0) (bed_thick_term a) (size (vkcb_at m a)) → Gives (face_term m Vertical a) (conductance m Vertical a)
  unfolding vertical_half vertical_conductance
  vertical_face a p q va vb bedded =
      let b = a + stride m.grid Vertical in
      layers_give (size (delr_at m a)) (size (delc_at m a)) (is_ratio m a) (size (hk_at m a)) (size (vka_at m a)) (thick_term m a) (is_ratio m b)
      (size (hk_at m b)) (size (vka_at m b)) (thick_term m b)
      (bed_thick_term a) (size (vkcb_at m a)) ((bed_thickness m a).num == 0) (layer_half a p va) (layer_half b q vb) bedded

  bedded_at : IsModel m → (a : ℕ) → a + layer_size m.grid < cell_count m.grid → is_active m a ≡ true → is_active m (a + layer_size m.grid) ≡ true →
      IsBedded ((bed_thickness m a).num == 0) (bed_thick_term a) (size (vkcb_at m a))
  bedded_at valid a lt x y = elim (cases_Bool (has_bed m a)) [
    | inl e ↦ (elim (valid.beds a lt x y e) [
      | inl same ↦ (let none = no_gap (number (lowest m a)) (number (bottom_at m a)) same in no_bed _ (bed_thick_term a) _ none none)
      | inr k ↦
          let above = bottom_at m a in
          let below = lowest m a in
          some_bed _ (bed_thick_term a) _ (thick_positive above below k.thick) (size_positive (vkcb_at m a) k.vkcb)
          (within_is_factor (span above below).lo (span above below).hi (bed_thickness m a) (span_positive above below k.thick) (thick_between above below k.thick))
    ])
    | inr e ↦
        let same = ap (λ b. number (cond b (dec_at m.grid.bed_bottom a) (dec_at m.grid.bottom a))) e in
        let none : (bed_thickness m a).num ≡ 0 = no_gap (number (lowest m a)) (number (bottom_at m a)) same in
        no_bed _ (bed_thick_term a) _ none none
  ]

  -- the formulas of the faces of a valid model
  pub face_gives : IsModel m → (axis : Axis) (a : ℕ) → a + stride m.grid axis < cell_count m.grid → is_active m a ≡ true →
      is_active m (a + stride m.grid axis) ≡ true → Gives (face_term m axis a) (conductance m axis a)
  face_gives valid Row a lt x y = row_face a (is_ready m a valid (omega (arith, lt)) x) (is_ready m (a + 1) valid lt y)
  face_gives valid Column a lt x y = column_face a (is_ready m a valid (omega (arith, lt)) x) (is_ready m (a + m.grid.cols) valid lt y)
  face_gives valid Vertical a lt x y =
      let two = cell_below_means_layers m.grid.layers (layer_size m.grid) a lt in
      vertical_face a (is_ready m a valid (omega (arith, lt)) x) (is_ready m (a + layer_size m.grid) valid lt y)
      (size_positive (vka_at m a) ((valid.cells a (omega (arith, lt)) x).vka two))
      (size_positive (vka_at m (a + layer_size m.grid)) ((valid.cells (a + layer_size m.grid) lt y).vka two)) (bedded_at valid a lt x y)

  -- The pairs of the faces enclose its conductances.
  pub faces_enclose : IsModel m → FacesEnclose m
  faces_enclose valid axis a s lt x y = term_pair_encloses s (face_gives valid axis a lt x y)
