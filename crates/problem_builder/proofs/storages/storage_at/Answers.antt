use Rattle.problem_builder.proofs.Common.{capped_pair, small_pair, thick_span, ◌≡◌, ◌-◌, cond, Option, Some, None, sym, ap, ◌∙◌, subst, size, Period, dec_at, thickness, IsPositive, IsNotNegative}
use Rattle.problem_builder.proofs.Common.{period_at, storage_of, storage_formula, storativity_term, storage_term, area_term, sum_term, power_term, span_in, delr_positive, delc_positive}
use Rattle.scaled_decimal.specs.declared.decimal.Sd.{Sd}
use Rattle.conductance_bounds.specs.{IsThickness}
use Rattle.problem_builder.proofs.{ValidEntries.period_valid, StorageParts.thick_case, StorageParts.usable_case, Fits.kept_pair}
use Rattle.problem_builder.proofs.storages.storage_at.Goals as goal

pub storage_branch-requires-clause-ss : goal.storage_branch-requires-clause-ss
storage_branch-requires-clause-ss c =
    let ss = c.dec_at-ss.ensures ∙ ap (λ xs. dec_at xs c.args.cell) c.as_slice.ensures in
    subst IsNotNegative (sym ss) (c.requires.model.cells c.args.cell c.requires.cell c.requires.active).ss

pub storage_branch-requires-clause-thick : goal.storage_branch-requires-clause-thick
storage_branch-requires-clause-thick c =
    let m = c.args.model.now in
    let t = c.args.tables.now in
    let span = c.span_at.ensures ∙ ap (λ xs. span_in xs c.args.cell) c.as_slice-2.ensures in
    let thick : c.thickness_in-thickness.result ≡ cond m.coefficient None (Some ((span_in t.thick c.args.cell).lo, (span_in t.thick c.args.cell).hi)) =
    c.thickness_in-thickness.ensures ∙ (λ q. cond m.coefficient None (Some ((span q).lo, (span q).hi))) in
    let P : Option (Sd × Sd) → Type 0 = λ o. IsThickness o in
    subst P (sym thick) (usable_case m.coefficient (span_in t.thick c.args.cell) (c.requires.tables.thick.each c.args.cell c.requires.cell c.requires.active).thick)

pub storage_branch-requires-clause-delr : goal.storage_branch-requires-clause-delr
storage_branch-requires-clause-delr c = subst IsPositive (sym c.delr_at-delr.ensures) (delr_positive c.args.model.now c.args.cell c.requires.model)

pub storage_branch-requires-clause-delc : goal.storage_branch-requires-clause-delc
storage_branch-requires-clause-delc c = subst IsPositive (sym c.delc_at-delc.ensures) (delc_positive c.args.model.now c.args.cell c.requires.model)

pub storage_branch-requires-clause-perlen : goal.storage_branch-requires-clause-perlen
storage_branch-requires-clause-perlen c =
    let P : Period → Type 0 = λ x. IsPositive x.perlen in
    subst P (sym c.stress_period-period.ensures) ((period_valid c.args.model.now c.args.number c.requires.model c.requires.number).times.lasts c.requires.transient)

pub returns : goal.returns
unfolding capped_pair
returns c n grown =
    let m = c.args.model.now in
    let d = c.args.cell in
    let w = period_at m c.args.number in
    let per = c.stress_period-period.ensures in
    let ss = c.dec_at-ss.ensures ∙ ap (λ xs. dec_at xs d) c.as_slice.ensures in
    let span = c.span_at.ensures ∙ ap (λ xs. span_in xs d) c.as_slice-2.ensures ∙ (c.requires.tables.thick.each d c.requires.cell c.requires.active).span in
    let thick : c.thickness_in-thickness.result ≡ cond m.coefficient None (Some ((thick_span m d).lo, (thick_span m d).hi)) =
    c.thickness_in-thickness.ensures ∙ (λ q. cond m.coefficient None (Some ((span q).lo, (span q).hi))) in
    let delr = c.delr_at-delr.ensures in
    let delc = c.delc_at-delc.ensures in
    let same : storage_of c.dec_at-ss.result c.thickness_in-thickness.result c.delr_at-delr.result c.delc_at-delc.result
    (size w.tsmult) w.nstp n c.stress_period-period.result.now.perlen (thickness m d) ≡ storage_term m w n d =
    (λ q. storage_of (ss q) (thick q) (delr q) (delc q) (size w.tsmult) w.nstp n (per q).perlen (thickness m d))
    ∙ ap (λ o. storage_formula (storativity_term (size (dec_at m.ss d)) o) (area_term m d) (sum_term (size w.tsmult) (w.nstp - 1)) (size w.perlen)
    (power_term (size w.tsmult) (n - 1))) (thick_case m.coefficient (thick_span m d) (thickness m d)) in
    c.capped_pair.ensures ∙ ap kept_pair (c.storage_branch.ensures.rounded (size w.tsmult) w.nstp n (thickness m d) grown ∙ ap (λ z. small_pair z c.args.tables.now.digits) same)
