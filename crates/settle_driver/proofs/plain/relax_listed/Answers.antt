use Rattle.std.proofs.Common.{arith, sym, subst}
use Rattle.settle_driver.proofs.Sweeping.{Listed, listed_none, listed_more}
use Rattle.settle_driver.proofs.plain.relax_listed.Goals.{then-cell-cells, else-cell-cells}
use Rattle.settle_driver.proofs.plain.relax_listed.Goals as goal

pub loop-cell-init : goal.loop-cell-init
loop-cell-init c = listed_none c.args.p.now c.args.words.now c.len-cells.ensures.fits c.requires.words

pub loop-cell-preserved : goal.loop-cell-preserved
loop-cell-preserved c =
    elim c.if-cell-cells.branch [
      | then-cell-cells w ↦
          let p = c.args.p.now in
          let turn = w.relax_cell.ensures in
          subst (Listed p c.args.words.now) (sym w.words-is) (listed_more p c.args.words.now c.loop-cell.words w.relax_cell.new.words _ c.len-cells.ensures.fits
          (omega (arith, w.if-cell-cells.true, c.len-cells.ensures.count)) w.relax_cell.auto.words turn.relaxed turn.others c.loop-cell.invariant)
      | else-cell-cells w ↦ subst (Listed c.args.p.now c.args.words.now) (sym w.words-is) c.loop-cell.invariant
    ]
