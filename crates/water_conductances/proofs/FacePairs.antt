-- The pair of a face encloses its conductance at all heads within the bounds.
use Rattle.water_conductances.proofs.Common.{◌≡◌, ℕ, zero, suc, ◌+◌, ◌^◌, ◌<◌, inl, inr, Bool, true, false, cond, refl, sym, ap, ◌∙◌, subst, arith, List, and_parts, cases_Bool, eq-eqb, false≢true}
use Rattle.water_conductances.proofs.Common.{ne_eqb, ◌&&◌, ◌==◌, Encloses, Fraction, Ratio, number, size, Dec, Axis, FlowModel, IsModel, bed_thickness, bottom_at, cell_count, dec_at, delc_at, delr_at}
use Rattle.water_conductances.proofs.Common.{has_bed, hk_at, is_active, is_ratio, layer_size, lowest, one, stride, vka_at, vkcb_at, cell_below_means_layers, no_gap, IsReady, is_ready, span_positive}
use Rattle.water_conductances.proofs.Common.{thick_between, Pair, Span, Bed, VertHalf, Number, PairEncloses, Quotient, Within, area_formula, bed_of, bed_span, column_k, column_of, resistance_sum}
use Rattle.water_conductances.proofs.Common.{row_of, vertical_half_of, vertical_of, capped_encloses, HeadsEnclose, IsBranch, no_pair, no_span, Bound, ConvertibleLayers, conductance_at, PairsEnclose}
use Rattle.water_conductances.proofs.Common.{bed_below, column_half, face_formula, has_depth, layer_half, row_half, saturated_span}
use Rattle.model_types.specs.declared.face.Axis.TheVariants.{Column, Row, Vertical}
use Rattle.conductance_bounds.proofs.{LayerBounds.IsBedded, LayerBounds.layers_give, LayerBounds.no_bed, LayerBounds.some_bed, Manual.Gives, Manual.term_pair_encloses, Manual.row_gives}
use Rattle.conductance_bounds.proofs.{Sides.IsFactor, Sides.exact_positive, Sides.product_is_factor, Sides.size_positive, Sides.within_is_factor}
use Rattle.water_conductances.proofs.Depths.{IsSpanOf, span_is}
unfoldable use Rattle.conductance_bounds.specs.{bound, capped_pair, pair}
unfoldable use Rattle.water_table.specs.{column_branch, row_branch, saturated_thickness, vertical_branch, vertical_part}

-- A pair doesn't depend on the exact thicknesses.
row_same : (m : FlowModel) (x y : Span) (a b : ℕ) (f g : Ratio) (s : ℕ) →
    pair (row_of (row_half m x a) (row_half m y b) (delc_at m a) f g) s ≡ pair (row_of (row_half m x a) (row_half m y b) (delc_at m a) one one) s
unfolding pair bound
row_same m x y a b f g s = refl

column_same : (m : FlowModel) (x y : Span) (a b : ℕ) (f g : Ratio) (s : ℕ) →
    pair (column_of (column_half m x a) (column_half m y b) (delr_at m a) f g) s ≡ pair (column_of (column_half m x a) (column_half m y b) (delr_at m a) one one) s
unfolding pair bound
column_same m x y a b f g s = refl

vertical_by : (x y : VertHalf) (bed : Bed) (r d : Dec) (f g h : Ratio) (s : ℕ) (b : Bool) →
    pair (Quotient (area_formula (size r) (size d)) (resistance_sum b (vertical_half_of x f) (bed_of bed h) (vertical_half_of y g))) s ≡
    pair (Quotient (area_formula (size r) (size d)) (resistance_sum b (vertical_half_of x one) (bed_of bed one) (vertical_half_of y one))) s
unfolding pair bound
vertical_by x y bed r d f g h s true = refl
vertical_by x y bed r d f g h s false = refl

vertical_same : (m : FlowModel) (x y : Span) (a b : ℕ) (f g h : Ratio) (s : ℕ) →
    pair (vertical_of (layer_half m x a) (layer_half m y b) (bed_below m a) (delr_at m a) (delc_at m a) f g h) s ≡
    pair (vertical_of (layer_half m x a) (layer_half m y b) (bed_below m a) (delr_at m a) (delc_at m a) one one one) s
vertical_same m x y a b f g h s = vertical_by (layer_half m x a) (layer_half m y b) (bed_below m a) (delr_at m a) (delc_at m a) f g h s ((bed_below m a).thick_lo.m == 0)

along : (p q : Pair) (s : ℕ) (r : Ratio) → p ≡ q → Encloses p.lo p.hi s r → Encloses q.lo q.hi s r
along p q s r e h = subst (λ (z : Pair). Encloses z.lo z.hi s r) e h

module _ (m : FlowModel) (w : ConvertibleLayers) (h : ℕ → Fraction) (valid : IsModel m) where
  abbrev sat : ℕ → Ratio
  sat = saturated_thickness m w h

  module _ (a b : ℕ) (x y : Span) (p : IsReady m a) (q : IsReady m b) (u : IsSpanOf m w h a x) (v : IsSpanOf m w h b y) where
    here : IsFactor (Within x.lo x.hi (sat a))
    here = within_is_factor x.lo x.hi (sat a) u.some u.between

    there : IsFactor (Within y.lo y.hi (sat b))
    there = within_is_factor y.lo y.hi (sat b) v.some v.between

    row_face : Gives (row_of (row_half m x a) (row_half m y b) (delc_at m a) (sat a) (sat b)) (row_branch m sat a b)
    unfolding row_branch
    row_face = row_gives (size (delc_at m a)) (size (delr_at m a)) (Number (size (hk_at m a))) (Within x.lo x.hi (sat a)) (size (delr_at m b)) (Number (size (hk_at m b)))
        (Within y.lo y.hi (sat b)) p.delc p.delr q.delr p.hk here q.hk there

    column_face : Gives (column_of (column_half m x a) (column_half m y b) (delr_at m a) (sat a) (sat b)) (column_branch m sat a b)
    unfolding column_branch
    column_face = row_gives (size (delr_at m a)) (size (delc_at m a)) (column_k (column_half m x a)) (Within x.lo x.hi (sat a)) (size (delc_at m b)) (column_k (column_half m y b))
        (Within y.lo y.hi (sat b)) p.delr p.delc q.delc (product_is_factor p.hk p.hani) here (product_is_factor q.hk q.hani) there

    vertical_face : 0 < (size (vka_at m a)).num → 0 < (size (vka_at m b)).num →
        IsBedded ((bed_below m a).thick_lo.m == 0) (Within (bed_below m a).thick_lo (bed_below m a).thick_hi (bed_thickness m a)) (size (vkcb_at m a)) →
        Gives (vertical_of (layer_half m x a) (layer_half m y b) (bed_below m a) (delr_at m a) (delc_at m a) (sat a) (sat b) (bed_thickness m a)) (vertical_branch m sat a b)
    unfolding vertical_branch vertical_part
    vertical_face va vb bedded =
        layers_give (size (delr_at m a)) (size (delc_at m a)) (is_ratio m a) (size (hk_at m a)) (size (vka_at m a)) (Within x.lo x.hi (sat a)) (is_ratio m b)
        (size (hk_at m b)) (size (vka_at m b)) (Within y.lo y.hi (sat b))
        (Within (bed_below m a).thick_lo (bed_below m a).thick_hi (bed_thickness m a)) (size (vkcb_at m a)) ((bed_below m a).thick_lo.m == 0)
        (record { hk = exact_positive p.hk; vka = va; thick = here }) (record { hk = exact_positive q.hk; vka = vb; thick = there }) bedded

  -- the bed between two active cells
  module _ (a : ℕ) (lt : a + layer_size m.grid < cell_count m.grid) (upper : is_active m a ≡ true) (lower : is_active m (a + layer_size m.grid) ≡ true) where
    abbrev span_by : Bool → Span
    span_by b = cond b no_span (bed_span m a)

    nothing : (n : ℕ) → (n == 0) ≡ true → n ≡ 0
    nothing zero e = refl
    nothing (suc n) e = absurd (false≢true (sym (ne_eqb (suc n) 0 (λ q. omega (arith, q))) ∙ e))

    never : (bed_thickness m a).num ≡ 0 → ((bed_thickness m a).num == 0) ≡ false → ⊥
    never none e = false≢true (sym e ∙ eq-eqb (bed_thickness m a).num 0 none)

    bedded_by : (b : Bool) → ((bed_thickness m a).num == 0) ≡ b → IsBedded ((span_by b).lo.m == 0) (Within (span_by b).lo (span_by b).hi (bed_thickness m a)) (size (vkcb_at m a))
    bedded_by true e = no_bed 0 (Within (span_by true).lo (span_by true).hi (bed_thickness m a)) (size (vkcb_at m a)) refl (nothing (bed_thickness m a).num e)
    bedded_by false e = elim (cases_Bool (has_bed m a)) [
      | inl bed ↦ elim (valid.beds a lt upper lower bed) [
        | inl same ↦ absurd (never (no_gap (number (lowest m a)) (number (bottom_at m a)) same) e)
        | inr k ↦
            let top = bottom_at m a in
            let bottom = lowest m a in
            some_bed (span_by false).lo.m (Within (span_by false).lo (span_by false).hi (bed_thickness m a)) (size (vkcb_at m a))
            (span_positive top bottom k.thick) (size_positive (vkcb_at m a) k.vkcb)
            (within_is_factor (span_by false).lo (span_by false).hi (bed_thickness m a) (span_positive top bottom k.thick) (thick_between top bottom k.thick))
      ]
      | inr none ↦ absurd (never (no_gap (number (lowest m a)) (number (bottom_at m a)) (ap (λ b. number (cond b (dec_at m.grid.bed_bottom a) (bottom_at m a))) none)) e)
    ]

    bedded : IsBedded ((bed_below m a).thick_lo.m == 0) (Within (bed_below m a).thick_lo (bed_below m a).thick_hi (bed_thickness m a)) (size (vkcb_at m a))
    bedded = bedded_by ((bed_thickness m a).num == 0) refl

  module _ (heads : List Bound) (inside : HeadsEnclose m heads h) (s : ℕ) where
    ready : (c : ℕ) → c < cell_count m.grid → is_active m c ≡ true → IsReady m c
    ready c lt active = is_ready m c valid lt active

    spans : (c : ℕ) → c < cell_count m.grid → is_active m c ≡ true → has_depth m w heads c ≡ true → IsSpanOf m w h c (saturated_span m w heads c)
    spans c lt active deep = span_is m w heads h valid inside c lt active deep

    pub face_in_bounds : (axis : Axis) (a : ℕ) → IsBranch m axis a → has_depth m w heads a ≡ true → has_depth m w heads (a + stride m.grid axis) ≡ true →
        PairEncloses (face_formula m w heads axis a) s (conductance_at m w h axis a)
    face_in_bounds Row a br deep deep' =
        let b = a + 1 in
        let lt : a < cell_count m.grid = omega (arith, br.within) in
        along _ _ s _ (row_same m (saturated_span m w heads a) (saturated_span m w heads b) a b (sat a) (sat b) s)
        (term_pair_encloses s (row_face a b (saturated_span m w heads a) (saturated_span m w heads b) (ready a lt br.first) (ready b br.within br.second)
        (spans a lt br.first deep) (spans b br.within br.second deep')))
    face_in_bounds Column a br deep deep' =
        let b = a + m.grid.cols in
        let lt : a < cell_count m.grid = omega (arith, br.within) in
        along _ _ s _ (column_same m (saturated_span m w heads a) (saturated_span m w heads b) a b (sat a) (sat b) s)
        (term_pair_encloses s (column_face a b (saturated_span m w heads a) (saturated_span m w heads b) (ready a lt br.first) (ready b br.within br.second)
        (spans a lt br.first deep) (spans b br.within br.second deep')))
    face_in_bounds Vertical a br deep deep' =
        let b = a + layer_size m.grid in
        let lt : a < cell_count m.grid = omega (arith, br.within) in
        let two = cell_below_means_layers m.grid.layers (layer_size m.grid) a br.within in
        along _ _ s _ (vertical_same m (saturated_span m w heads a) (saturated_span m w heads b) a b (sat a) (sat b) (bed_thickness m a) s)
        (term_pair_encloses s (vertical_face a b (saturated_span m w heads a) (saturated_span m w heads b) (ready a lt br.first) (ready b br.within br.second)
        (spans a lt br.first deep) (spans b br.within br.second deep')
        (size_positive (vka_at m a) ((valid.cells a lt br.first).vka two)) (size_positive (vka_at m b) ((valid.cells b br.within br.second).vka two))
        (bedded a br.within br.first br.second)))

    abbrev pair_by : Axis → ℕ → Bool → Pair
    pair_by axis a b = cond b (capped_pair (face_formula m w heads axis a) s) no_pair

    by_depth : (axis : Axis) (a : ℕ) → IsBranch m axis a → (b : Bool) → (has_depth m w heads a && has_depth m w heads (a + stride m.grid axis)) ≡ b →
        0 < (pair_by axis a b).lo → (pair_by axis a b).hi < 2 ^ 60 → Encloses (pair_by axis a b).lo (pair_by axis a b).hi s (conductance_at m w h axis a)
    by_depth axis a br true e some small =
        let both = and_parts (has_depth m w heads a) _ e in
        capped_encloses (face_formula m w heads axis a) s (conductance_at m w h axis a) (face_in_bounds axis a br both.0 both.1) small
    by_depth axis a br false e some small = absurd (omega (arith, some))

pub pairs_enclose : PairsEnclose
pairs_enclose m w heads h s axis a valid inside br some small = by_depth m w h valid heads inside s axis a br _ refl some small
