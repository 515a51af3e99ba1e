use Rattle.convertible_reader.proofs.Common.{err_from_is_err_and, ends_text, is_done, rules}
use Rattle.record_lines.proofs.Loops.{goes_on}
use Rattle.std.proofs.lemmas.Int.{to_z-of_z}
use mir.Syntax.{w64}
use mir.Val.{SFits}
use Rattle.convertible_reader.proofs.settings.laytyps.Goals as goal

pub returns-in_err-value : goal.returns-in_err-value
returns-in_err-value c =
    let p = err_from_is_err_and c.from_residual.result c.from_residual.ensures.1 in
    rw (p.1, p.2) (ends_text _ c.in_err-value.field-0.0 c.loop.values.items c.args.count c.loop.counter _ _ c.loop-test.true c.in_err-value.ensures c.loop.invariant)

pub loop-preserved : goal.loop-preserved
loop-preserved c =
    let fits : SFits w64 c.in_ok-value.value = search rules in
    rw (c.in_ok-push.ensures.items, to_z-of_z w64 c.in_ok-value.value fits)
    (goes_on _ c.loop.values.items c.args.count c.loop.counter _ _ c.in_ok-value.value _ c.loop-test.true c.in_ok-value.ensures c.loop.invariant)

pub returns : goal.returns
returns c = is_done _ c.loop.values.items c.args.count c.loop.counter _ _ c.loop-test.false c.loop.invariant
