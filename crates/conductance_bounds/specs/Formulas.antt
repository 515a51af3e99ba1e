-- The formulas of a model's bounds: those of single calls, with the numbers of its cells and with the exact thicknesses.
use Rattle.std.specs.Prelude.{ℕ, ◌+◌, ◌-◌, ◌==◌, cond, Some, None, pos, neg_ℤ, ◌-ℤ◌, unsigned_abs, ◌≡◌, ◌<◌, ◌≤◌, true, false}
use Rattle.decimal_input.specs.{declared.dec.Dec.Dec, size, scaled_ratio, EnclosesSigned, Ratios.AtMost}
use Rattle.scaled_decimal.specs.{declared.decimal.Sd.Sd, Lower, Upper, IsSd, HasSize, rounded_decimal, value}
use Rattle.model_types.specs.declared.entry.Given.{Given}
use Rattle.model_types.specs.{declared.face.Axis.Axis, declared.face.Axis.TheVariants.Row, declared.face.Axis.TheVariants.Column}
use Rattle.model_types.specs.{declared.face.Axis.TheVariants.Vertical, declared.model.FlowModel.FlowModel, declared.period.Period.Period, stride, dec_at}
use Rattle.model_types.specs.{delr_at, delc_at, thickness, bed_thickness, hk_at, hani_at, vka_at, is_ratio, vkcb_at, cell_count, conductance, between_heads}
use Rattle.model_types.specs.{is_active, top_at, bottom_at, lowest, IsPositive, EvapSource, recharge_flow, evap_conductance, storage, part_passed, IsTimed}
use Rattle.conductance_bounds.specs.{declared.span.Span.Span, Terms.Term, Terms.Holds, Terms.Term.Number, Terms.Term.Within, Terms.Term.Product}
use Rattle.conductance_bounds.specs.{Terms.Term.Quotient, Pairs.PairEncloses, Pairs.FlowEncloses, Pairs.units_at, Parts.sum_term, Parts.power_term, Parts.part}
use Rattle.conductance_bounds.specs.{Parts.given_pair, Branches.row_term, Branches.area_formula, Branches.vertical_k_term, Branches.vertical_term}
use Rattle.conductance_bounds.specs.{Branches.resistance_sum, Branches.storativity_term, Branches.storage_formula, Branches.recharge_formula}
use Rattle.conductance_bounds.specs.{Branches.evap_formula}

-- the decimals of the thickness between two elevations: from their floors and ceilings in units of 10 ^ -18, rounded to 18 digits
unfoldable pub span : Dec → Dec → Span
span top bottom = record {
  lo = rounded_decimal Lower (scaled_ratio (unsigned_abs (units_at Lower top 18 -ℤ units_at Upper bottom 18)) (neg_ℤ (pos 18)));
  hi = rounded_decimal Upper (scaled_ratio (unsigned_abs (units_at Upper top 18 -ℤ units_at Lower bottom 18)) (neg_ℤ (pos 18)));
}

module _ (m : FlowModel) where
  abbrev pub column_k_term : ℕ → Term
  column_k_term c = Product (Number (size (hk_at m c))) (Number (size (hani_at m c)))

  abbrev pub vertical_k_at : ℕ → Term
  vertical_k_at c = vertical_k_term (is_ratio m c) (size (hk_at m c)) (size (vka_at m c))

  abbrev pub area_term : ℕ → Term
  area_term c = area_formula (size (delr_at m c)) (size (delc_at m c))

  abbrev pub recharge_term : Dec → ℕ → Term
  recharge_term rate c = recharge_formula (size rate) (size (delr_at m c)) (size (delc_at m c))

  abbrev pub evap_term : Dec → Dec → ℕ → Term
  evap_term rate depth c = evap_formula (size rate) (size (delr_at m c)) (size (delc_at m c)) (size depth)

  -- those of an active cell, and of the bed between it and the cell below it
  abbrev pub thick_span : ℕ → Span
  thick_span c = span (top_at m c) (bottom_at m c)

  abbrev pub bed_span : ℕ → Span
  bed_span a = span (bottom_at m a) (lowest m a)

  abbrev pub thick_term : ℕ → Term
  thick_term c = Within (thick_span c).lo (thick_span c).hi (thickness m c)

  -- storage of step n of a transient period; SS alone under the option STORAGECOEFFICIENT
  abbrev pub storage_term : Period → ℕ → ℕ → Term
  storage_term p n c =
      storage_formula (storativity_term (size (dec_at m.ss c)) (cond m.coefficient None (Some (thick_term c))))
      (area_term c) (sum_term (size p.tsmult) (p.nstp - 1)) (size p.perlen) (power_term (size p.tsmult) (n - 1))

  abbrev pub vertical_half_term : ℕ → Term
  vertical_half_term c = vertical_term (thick_term c) (vertical_k_at c)

  abbrev pub bed_term : ℕ → Term
  bed_term c = Quotient (Within (bed_span c).lo (bed_span c).hi (bed_thickness m c)) (Number (size (vkcb_at m c)))

  -- the resistance of the bed between the halves, where it has a thickness
  abbrev pub resistance_term : ℕ → ℕ → Term
  resistance_term a b = resistance_sum ((bed_thickness m a).num == 0) (vertical_half_term a) (bed_term a) (vertical_half_term b)

  -- the conductance of a face: between its first cell and the next one along the axis
  abbrev pub face_term : Axis → ℕ → Term
  face_term Row a =
      row_term (size (delc_at m a)) (size (delr_at m a)) (Number (size (hk_at m a))) (thick_term a)
      (size (delr_at m (a + stride m.grid Row))) (Number (size (hk_at m (a + stride m.grid Row))))
      (thick_term (a + stride m.grid Row))
  face_term Column a =
      row_term (size (delr_at m a)) (size (delc_at m a)) (column_k_term a) (thick_term a)
      (size (delc_at m (a + stride m.grid Column))) (column_k_term (a + stride m.grid Column))
      (thick_term (a + stride m.grid Column))
  face_term Vertical a = Quotient (area_term a) (resistance_term a (a + stride m.grid Vertical))

-- two decimals of a thickness: above 0, in order, with exponents from -100 to 100
pub record AreThick (lo hi : Sd) : Type 0 where
  pub low : IsSd lo
  pub high : IsSd hi
  pub low_size : HasSize lo (neg_ℤ (pos 100)) (pos 100)
  pub high_size : HasSize hi (neg_ℤ (pos 100)) (pos 100)
  pub order : AtMost (value lo) (value hi)

-- The formulas of a model hold: no divisor of theirs is 0, nor its lower bound, so that each of their bounds says something.
-- those of the faces between active cells, of an active cell's storage in a transient period, of recharge and of evapotranspiration
pub record FormulasHold (m : FlowModel) : Type 0 where
  pub faces : (axis : Axis) (a : ℕ) → a + stride m.grid axis < cell_count m.grid → is_active m a ≡ true →
      is_active m (a + stride m.grid axis) ≡ true → Holds (face_term m axis a)
  pub storages : (p : Period) (n c : ℕ) → IsTimed p → p.steady ≡ false → c < cell_count m.grid → is_active m c ≡ true →
      Holds (storage_term m p n c)
  pub recharges : (rate : Dec) (c : ℕ) → Holds (recharge_term m rate c)
  pub evaps : (x : EvapSource) (c : ℕ) → IsPositive x.depth → Holds (evap_term m x.rate x.depth c)

-- How the bounds of a valid model enclose its exact numbers: each pair by the formula of a branch, of a storage, of a
-- recharge, of an evapotranspiration or of a given head encloses the exact value.
abbrev pub FacesEnclose : FlowModel → Type 0
FacesEnclose m =
    (axis : Axis) (a s : ℕ) → a + stride m.grid axis < cell_count m.grid → is_active m a ≡ true → is_active m (a + stride m.grid axis) ≡ true →
    PairEncloses (face_term m axis a) s (conductance m axis a)

-- at each step of a transient period
abbrev pub StoragesEnclose : FlowModel → Type 0
StoragesEnclose m =
    (p : Period) (n c s : ℕ) → IsTimed p → p.steady ≡ false → c < cell_count m.grid → is_active m c ≡ true →
    PairEncloses (storage_term m p n c) s (storage m p n c)

abbrev pub RechargesEnclose : FlowModel → Type 0
RechargesEnclose m = (rate : Dec) (c s : ℕ) → FlowEncloses (recharge_term m rate c) rate.neg s (recharge_flow m c rate)

abbrev pub EvapsEnclose : FlowModel → Type 0
EvapsEnclose m = (x : EvapSource) (c s : ℕ) → IsPositive x.depth → PairEncloses (evap_term m x.rate x.depth c) s (evap_conductance m c x)

-- at each step of a period
abbrev pub HeadsEnclose : Type 0
HeadsEnclose =
    (p : Period) (n : ℕ) (x : Given) → IsTimed p → 1 ≤ n → n ≤ p.nstp →
    EnclosesSigned (given_pair x.shead x.ehead (part p n)).lo (given_pair x.shead x.ehead (part p n)).hi 9 (between_heads x (part_passed p n))
