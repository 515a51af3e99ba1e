use Rattle.deck_span.proofs.Common.{◌≡◌, length, arith, SharesIn}
use Rattle.std.proofs.lemmas.Result.{err_from_is_err_and}
use Rattle.deck_span.proofs.{Finding.periods_found, Layers.zip_more}
use Rattle.deck_span.proofs.periods.periods_apart.Goals as goal

pub returns-in_err-period_apart : goal.returns-in_err-period_apart
returns-in_err-period_apart c =
    let long : length c.args.qs.now ≡ length c.args.ps.now = omega arith in
    let p = err_from_is_err_and c.from_residual-in_err-period_apart.result c.from_residual-in_err-period_apart.ensures.1 in
    rw (p.1, p.2) (periods_found c.args.kind c.args.cells c.args.ps.now c.args.qs.now c.loop-i.i c.index-ps-i.result c.index-qs-i.result
    c.in_err-period_apart.field-0.0 c.loop-i-test.true long c.index-ps-i.is c.index-qs-i.is c.loop-i.invariant c.in_err-period_apart.ensures)

pub loop-i-preserved : goal.loop-i-preserved
loop-i-preserved c =
    let long : length c.args.qs.now ≡ length c.args.ps.now = omega arith in
    zip_more (SharesIn c.args.kind) c.args.ps.now c.args.qs.now c.loop-i.i c.index-ps-i.result c.index-qs-i.result c.loop-i-test.true long c.index-ps-i.is
    c.index-qs-i.is c.loop-i.invariant c.in_ok-period_apart.ensures
