-- The numbers of active cells of a valid model: what is above 0, and elevations that fall.
use Rattle.water_enclosure.proofs.Common.{refl, ◌≡◌, ℕ, zero, suc, negsuc, ◌+◌, ◌-◌, ◌<◌, inl, inr, Bool, true, false, cond, ℤ, pos, ap, sym, ◌∙◌, subst, arith, and_parts, cases_Bool, ints, int_lt}
use Rattle.water_enclosure.proofs.Common.{nat_lt, not, unsigned_abs, ◌==◌, IsBelow, over-positive, times-positive, Fraction, Ratio, number, size, AtMost, size_positive, FlowModel, IsModel, IsThick}
use Rattle.water_enclosure.proofs.Common.{bottom_at, cell_count, dec_at, delc_at, delr_at, hani_at, has_bed, hk_at, int_at, is_active, is_ratio, is_variable, layer_size, lowest, top_at, two}
use Rattle.water_enclosure.proofs.Common.{vertical_conductivity, vka_at}
use Rattle.std.proofs.lemmas.Bool.Decides.{nat_tests}
use Rattle.conductance_bounds.proofs.{Ready.delc_positive, Ready.delr_positive, SpanBounds.gap_positive}
use Rattle.decimal_input.specs.{declared.dec.Dec.Dec, Ratios.times}
unfoldable use Rattle.decimal_input.specs.{over, ratio}

thick_room : (top bottom : Dec) → IsThick top bottom → IsBelow (number bottom) (number top)
thick_room top bottom k = record { below = omega (arith, ints, gap_positive top bottom k) }

module _ (m : FlowModel) (valid : IsModel m) (c : ℕ) (lt : c < cell_count m.grid) (active : is_active m c ≡ true) where
  pub bottom_is_below_top : IsBelow (number (bottom_at m c)) (number (top_at m c))
  bottom_is_below_top = thick_room (top_at m c) (bottom_at m c) (valid.cells c lt active).thick

  pub hk_some : 0 < (size (hk_at m c)).num
  hk_some = size_positive (hk_at m c) (valid.cells c lt active).hk

  pub hani_some : 0 < (size (hani_at m c)).num
  hani_some = size_positive (hani_at m c) (valid.cells c lt active).hani

  pub conductivity_some : 1 < m.grid.layers → 0 < (vertical_conductivity m c).num
  conductivity_some many = by_ratio (is_ratio m c)
    where
      by_ratio : (b : Bool) → 0 < (cond b (over (size (hk_at m c)) (size (vka_at m c))) (size (vka_at m c))).num
      by_ratio true = over-positive _ _ hk_some
      by_ratio false = size_positive (vka_at m c) ((valid.cells c lt active).vka many)

pub delr_some : (m : FlowModel) → IsModel m → (c : ℕ) → 0 < (size (delr_at m c)).num
delr_some m valid c = size_positive (delr_at m c) (delr_positive m c valid)

pub delc_some : (m : FlowModel) → IsModel m → (c : ℕ) → 0 < (size (delc_at m c)).num
delc_some m valid c = size_positive (delc_at m c) (delc_positive m c valid)

two_some : 0 < two.num
unfolding ratio
two_some = omega arith

-- twice a width times a conductivity
pub factor_some : (w k : Ratio) → 0 < w.num → 0 < k.num → 0 < (times (times two w) k).num
factor_some w k some more = times-positive _ _ (times-positive _ _ two_some some) more

pub past_layer : (a n : ℕ) → nat_lt (a + n) n ≡ false
past_layer a n = grind arith

pub layer_back : (a n : ℕ) → a + n - n ≡ a
layer_back a n = omega arith

-- the top of the cell below is the lowest elevation of the cell's own layer
pub top_after : (m : FlowModel) (a b : ℕ) → b ≡ a + layer_size m.grid → top_at m b ≡ lowest m a
top_after m a b e =
    ap (top_at m) e ∙ ap (λ (c : Bool). cond c (dec_at m.grid.top (a + layer_size m.grid)) (lowest m (a + layer_size m.grid - layer_size m.grid)))
    (past_layer a (layer_size m.grid)) ∙ ap (lowest m) (layer_back a (layer_size m.grid))

-- of two active cells, one above the other, the lower one's top is at or below the upper one's bottom
pub tops_below : (m : FlowModel) → IsModel m → (a : ℕ) → a + layer_size m.grid < cell_count m.grid → is_active m a ≡ true → is_active m (a + layer_size m.grid) ≡ true →
    AtMost (number (top_at m (a + layer_size m.grid))) (number (bottom_at m a))
tops_below m valid a lt upper lower = subst (λ (d : Dec). AtMost (number d) (number (bottom_at m a))) (sym (top_after m a (a + layer_size m.grid) refl)) (elim (cases_Bool (has_bed m a)) [
  | inl bed ↦ elim (valid.beds a lt upper lower bed) [
    | inl same ↦ subst (λ (f : Fraction). AtMost f (number (bottom_at m a))) (sym same) (record { at_most = omega (arith, ints) })
    | inr is ↦ record { at_most = let b = (thick_room (bottom_at m a) (lowest m a) is.thick).below in omega (arith, ints, b) }
  ]
  | inr none ↦ subst (λ (b : Bool). AtMost (number (cond b (dec_at m.grid.bed_bottom a) (bottom_at m a))) (number (bottom_at m a))) (sym none) (record { at_most = omega (arith, ints) })
])

-- a variable cell is active
positive_active : (z : ℤ) → int_lt (pos 0) z ≡ true → not (unsigned_abs z == 0) ≡ true
positive_active (pos zero) e = e
positive_active (pos (suc n)) e = grind (arith, nat_tests)
positive_active (negsuc n) e = grind (arith, nat_tests)

pub variable_active : (m : FlowModel) (p c : ℕ) → is_variable m p c ≡ true → is_active m c ≡ true
variable_active m p c e = positive_active (int_at m.ibound c) (and_parts (int_lt (pos 0) (int_at m.ibound c)) _ e).0
