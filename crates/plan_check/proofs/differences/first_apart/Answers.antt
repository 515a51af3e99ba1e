use Rattle.plan_check.proofs.Common.{arith, sym, ◌<◌, ◌∙◌, cell_count, all_reached, first_unreached, reached_next, ReachesZero}
use Rattle.plan_check.proofs.differences.first_apart.Goals as goal

pub loop-cell-init : goal.loop-cell-init
loop-cell-init c = λ d lt cell side. absurd (omega (arith, lt))

pub loop-cell-preserved : goal.loop-cell-preserved
loop-cell-preserved c =
    let ds = c.args.decks.now in
    let n = c.loop-cell.cell in
    let within : n < cell_count ds.first.grid = omega (arith, c.loop-cell-test.true, c.cell_count-count.ensures.count) in
    let kind = c.kind_at.ensures ∙ c.requires.period.1.kinds.each n within in
    reached_next ds c.args.at (ReachesZero c.args.differences.now) n (λ cell k side. c.in_default.ensures (kind ∙ k) side) c.loop-cell.invariant

pub returns-in-Some : goal.returns-in-Some
returns-in-Some c =
    let ds = c.args.decks.now in
    let n = c.loop-cell.cell in
    let within : n < cell_count ds.first.grid = omega (arith, c.loop-cell-test.true, c.cell_count-count.ensures.count) in
    let kind = sym (c.kind_at.ensures ∙ c.requires.period.1.kinds.each n within) ∙ c.in-Some.ensures.0 in
    first_unreached ds c.args.at (ReachesZero c.args.differences.now) n c.in-Some.side within kind c.in-Some.ensures.1 (λ cell e. c.in-Some.ensures.2 e)
    c.loop-cell.invariant

pub returns : goal.returns
returns c =
    all_reached c.args.decks.now c.args.at (ReachesZero c.args.differences.now) c.loop-cell.cell
    (omega (arith, c.loop-cell-test.false, c.cell_count-count.ensures.count)) c.loop-cell.invariant
