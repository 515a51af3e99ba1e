-- The pair of a face, from the decimals of its two cells; and the bed below a cell.
use Rattle.water_conductances.proofs.Common.{◌≡◌, ℕ, ◌+◌, ◌⊎◌, inl, inr, Bool, true, false, cond, sym, ap, ◌∙◌, List, arith, eq-eqb, ne_eqb, ◌&&◌, ◌==◌, Axis, FlowModel, bed_thickness, stride, Pair}
use Rattle.water_conductances.proofs.Common.{Span, bed_span, IsBedOf, IsNoBed, no_pair, no_span, Bound, ConvertibleLayers, formula_of, has_depth, pair_at_heads, saturated_span}
unfoldable use Rattle.conductance_bounds.specs.{capped_pair}

module _ (m : FlowModel) (w : ConvertibleLayers) (heads : List Bound) (s : ℕ) (axis : Axis) (a b : ℕ) (next : b ≡ a + stride m.grid axis) where
  pub pair_is : (x y : Span) (r : Pair) → has_depth m w heads a ≡ true → has_depth m w heads b ≡ true → x ≡ saturated_span m w heads a → y ≡ saturated_span m w heads b →
      r ≡ capped_pair (formula_of m axis x y a) s → r ≡ pair_at_heads m w heads s axis a
  pair_is x y r here there p q e =
      let there' = sym (ap (has_depth m w heads) next) ∙ there in
      let q' = q ∙ ap (saturated_span m w heads) next in
      e ∙ (λ i. capped_pair (formula_of m axis (p i) (q' i) a) s)
      ∙ sym (λ i. cond (here i && there' i) (capped_pair (formula_of m axis (saturated_span m w heads a) (saturated_span m w heads (a + stride m.grid axis)) a) s) no_pair)

  pub none_here : has_depth m w heads a ≡ false → no_pair ≡ pair_at_heads m w heads s axis a
  none_here here = sym (λ i. cond (here i && has_depth m w heads (a + stride m.grid axis))
      (capped_pair (formula_of m axis (saturated_span m w heads a) (saturated_span m w heads (a + stride m.grid axis)) a) s) no_pair)

  pub none_there : has_depth m w heads a ≡ true → has_depth m w heads b ≡ false → no_pair ≡ pair_at_heads m w heads s axis a
  none_there here there =
      let there' = sym (ap (has_depth m w heads) next) ∙ there in
      sym (λ i. cond (here i && there' i) (capped_pair (formula_of m axis (saturated_span m w heads a) (saturated_span m w heads (a + stride m.grid axis)) a) s) no_pair)

-- the decimals of a bed
pub bed_is : (m : FlowModel) (a : ℕ) (t : Span) → IsBedOf m a t ⊎ IsNoBed m a t → t ≡ cond ((bed_thickness m a).num == 0) no_span (bed_span m a)
bed_is m a t (inl k) = k.span ∙ sym (ap (λ (b : Bool). cond b no_span (bed_span m a)) (ne_eqb (bed_thickness m a).num 0 (λ e. omega (arith, e, k.some))))
bed_is m a t (inr k) =
    let zeros : t ≡ no_span = λ i. record { lo = record { m = k.low.0 i; e = k.low.1 i }; hi = record { m = k.high.0 i; e = k.high.1 i } } in
    zeros ∙ sym (ap (λ (b : Bool). cond b no_span (bed_span m a)) (eq-eqb (bed_thickness m a).num 0 k.none))
