use Rattle.std.proofs.Common.{arith, ◌<◌, length}
use Rattle.settle_driver.proofs.Sweeping.{swept_none, swept_more, still_settled}
use Rattle.settle_driver.proofs.sweep.sweep.Goals as goal

pub loop-cell-init : goal.loop-cell-init
loop-cell-init c = swept_none c.args.p.now c.args.words.now c.len-cell-end.ensures.fits c.requires.words

pub loop-cell-preserved : goal.loop-cell-preserved
loop-cell-preserved c =
    let here : c.loop-cell.cell < length c.args.p.now = omega (arith, c.loop-cell-test.true, c.len-cell-end.ensures.count) in
    let turn = c.relax_cell-moved.ensures in
    swept_more c.args.p.now c.args.words.now c.loop-cell.words c.relax_cell-moved.new.words c.loop-cell.cell c.len-cell-end.ensures.fits here
    c.relax_cell-moved.auto.words turn.relaxed turn.others c.loop-cell.moved c.relax_cell-moved.result c.loop-cell.invariant turn.still

pub returns-clause-past : goal.returns-clause-past
returns-clause-past c = λ d i. c.loop-cell.invariant.past d (omega (arith, i, c.loop-cell-test.false, c.len-cell-end.ensures.count))

pub returns-clause-still : goal.returns-clause-still
returns-clause-still c = λ e. still_settled c.args.p.now c.args.words.now c.loop-cell.words (λ d i.
    c.loop-cell.invariant.past d (omega (arith, i, c.loop-cell-test.false, c.len-cell-end.ensures.count))) (c.loop-cell.invariant.still e)
