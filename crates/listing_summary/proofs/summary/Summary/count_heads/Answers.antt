use Rattle.listing_summary.proofs.Common.{◌<◌, arith, length, no_bound}
use Rattle.listing_summary.proofs.Counts.{no_cell, one_cell}
use Rattle.listing_summary.proofs.summary.Summary.count_heads.Goals as goal

pub loop-cell-preserved : goal.loop-cell-preserved
loop-cell-preserved c =
    let within : c.loop-cell.cell < length c.args.heads.now = omega arith in
    record {
      is = one_cell c.args.model.now c.args.heads.now c.loop-cell.cell no_bound c.loop-cell.self c.count_cell.new.self _ within c.count_cell.ensures.is c.loop-cell.invariant.is;
      fits = c.count_cell.ensures.fits;
      few = omega (arith, c.loop-cell.invariant.few, c.count_cell.ensures.few);
    }

pub returns-clause-is : goal.returns-clause-is
returns-clause-is c = no_cell c.args.model.now c.args.heads.now c.loop-cell.cell c.loop-cell.self _ (omega arith) c.loop-cell.invariant.is
