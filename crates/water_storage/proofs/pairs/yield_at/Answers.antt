use Rattle.water_storage.proofs.Common.{◌≡◌, sym, ap, ◌∙◌, subst, None, size, Period, dec_at, period_at, IsPositive, IsNotNegative, small_pair, storage_of, storage_term, thickness, kept_pair}
use Rattle.water_storage.proofs.Common.{with_yield}
use Rattle.conductance_bounds.proofs.Ready.{delc_positive, delr_positive}
use Rattle.problem_builder.proofs.ValidEntries.{period_valid}
unfoldable use Rattle.conductance_bounds.specs.{capped_pair}
use Rattle.water_storage.proofs.pairs.yield_at.Goals as goal

pub storage_branch-requires-clause-ss : goal.storage_branch-requires-clause-ss
storage_branch-requires-clause-ss c =
    let sy = c.dec_at-sy.ensures ∙ ap (λ xs. dec_at xs c.args.cell) c.as_slice.ensures in
    subst IsNotNegative (sym sy) (c.requires.yields.cells c.args.cell c.requires.cell c.requires.active).ss

pub storage_branch-requires-clause-delr : goal.storage_branch-requires-clause-delr
storage_branch-requires-clause-delr c = subst IsPositive (sym c.delr_at-delr.ensures) (delr_positive c.args.model.now c.args.cell c.requires.model)

pub storage_branch-requires-clause-delc : goal.storage_branch-requires-clause-delc
storage_branch-requires-clause-delc c = subst IsPositive (sym c.delc_at-delc.ensures) (delc_positive c.args.model.now c.args.cell c.requires.model)

pub storage_branch-requires-clause-perlen : goal.storage_branch-requires-clause-perlen
storage_branch-requires-clause-perlen c =
    let P : Period → Type 0 = λ x. IsPositive x.perlen in
    subst P (sym c.stress_period-period.ensures) ((period_valid c.args.model.now c.args.number c.requires.model c.requires.number).times.lasts c.requires.transient)

pub returns : goal.returns
unfolding capped_pair
returns c n grown =
    let m = c.args.model.now in
    let d = c.args.cell in
    let w = period_at m c.args.number in
    let per = c.stress_period-period.ensures in
    let sy = c.dec_at-sy.ensures ∙ ap (λ xs. dec_at xs d) c.as_slice.ensures in
    let delr = c.delr_at-delr.ensures in
    let delc = c.delc_at-delc.ensures in
    let same : storage_of c.dec_at-sy.result None c.delr_at-delr.result c.delc_at-delc.result
    (size w.tsmult) w.nstp n c.stress_period-period.result.now.perlen (thickness m d) ≡ storage_term (with_yield m c.args.layers.now) w n d =
    λ q. storage_of (sy q) None (delr q) (delc q) (size w.tsmult) w.nstp n (per q).perlen (thickness m d) in
    c.capped_pair.ensures ∙ ap kept_pair (c.storage_branch.ensures.rounded (size w.tsmult) w.nstp n (thickness m d) grown ∙ ap (λ z. small_pair z c.args.s) same)
