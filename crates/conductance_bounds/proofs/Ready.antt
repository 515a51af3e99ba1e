-- The numbers of an active cell of a valid model are ready for its branches.
use Rattle.conductance_bounds.proofs.Common.{◌≡◌, ℕ, ◌/◌, ◌<◌, true, arith, size, FlowModel, cell_count, column_of, row_of, no_number, dec_at, delr_at, delc_at, hk_at, hani_at, top_at, bottom_at}
use Rattle.conductance_bounds.proofs.Common.{is_active, thickness, IsModel, IsPositive, Number, span, thick_term}
use Rattle.std.proofs.lemmas.Nat.{mod_below}
use Rattle.conductance_bounds.proofs.{Sides.IsFactor, Sides.input_is_factor, Sides.size_positive, Sides.within_is_factor, ThickBounds.span_positive, ThickBounds.thick_between}

-- the numbers of an active cell
pub record IsReady (m : FlowModel) (c : ℕ) : Type 0 where
  pub delr : 0 < (size (delr_at m c)).num
  pub delc : 0 < (size (delc_at m c)).num
  pub hk : IsFactor (Number (size (hk_at m c)))
  pub hani : IsFactor (Number (size (hani_at m c)))
  pub thick : IsFactor (thick_term m c)

pub delr_positive : (m : FlowModel) (c : ℕ) → IsModel m → IsPositive (delr_at m c)
delr_positive m c valid = valid.grid.delr.1 (column_of m.grid c) no_number (omega (arith, valid.grid.delr.0, mod_below c m.grid.cols (omega (arith, valid.grid.size.cols.0))))

pub delc_positive : (m : FlowModel) (c : ℕ) → IsModel m → IsPositive (delc_at m c)
delc_positive m c valid = valid.grid.delc.1 (row_of m.grid c) no_number (omega (arith, valid.grid.delc.0, mod_below (c / m.grid.cols) m.grid.rows (omega (arith, valid.grid.size.rows.0))))

pub is_ready : (m : FlowModel) (c : ℕ) → IsModel m → c < cell_count m.grid → is_active m c ≡ true → IsReady m c
is_ready m c valid lt active =
    let cell = valid.cells c lt active in
    let top = top_at m c in
    let bottom = bottom_at m c in
    record {
      delr = size_positive (delr_at m c) (delr_positive m c valid);
      delc = size_positive (delc_at m c) (delc_positive m c valid);
      hk = input_is_factor (dec_at m.hk c) cell.hk;
      hani = input_is_factor (dec_at m.hani c) cell.hani;
      thick = within_is_factor (span top bottom).lo (span top bottom).hi (thickness m c) (span_positive top bottom cell.thick) (thick_between top bottom cell.thick);
    }
