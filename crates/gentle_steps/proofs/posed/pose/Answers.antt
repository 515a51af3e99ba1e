use Rattle.gentle_steps.proofs.Common.{High, Low, err_from_is_err_and, no_storage}
use Rattle.gentle_steps.proofs.{Cells.side_cells, Posing.unposed_high}
use Rattle.gentle_steps.proofs.posed.pose.Goals as goal

pub returns-in_err-high-clause-fault : goal.returns-in_err-high-clause-fault
returns-in_err-high-clause-fault c =
    let p = err_from_is_err_and c.from_residual-in_err-high.result c.from_residual-in_err-high.ensures.1 in
    rw (p.1, p.2) (unposed_high c.args.model.now c.args.layers.now c.args.tables.now.digits c.args.at c.args.listed.now c.in_ok-low.low c.in_ok-low.ensures.problem
    c.in_err-high.field-0.0 c.in_err-high.ensures.refusal)

pub returns-in-Some-clause-fault : goal.returns-in-Some-clause-fault
returns-in-Some-clause-fault c =
    no_storage c.in_ok-low.low c.in_ok-high.high c.in-Some.cell c.in_ok-low.ensures.problem c.in_ok-high.ensures.problem c.in-Some.ensures c.too_large.ensures

pub returns-clause-posed : goal.returns-clause-posed
returns-clause-posed c =
    let m = c.args.model.now in
    let w = c.args.layers.now in
    let s = c.args.tables.now.digits in
    record {
      sides = record { low = c.in_ok-low.ensures.problem; high = c.in_ok-high.ensures.problem; stored = c.in_default.ensures };
      low_cells = side_cells m w s c.args.at c.args.listed.now Low c.in_ok-low.low c.in_ok-low.ensures.problem;
      high_cells = side_cells m w s c.args.at c.args.listed.now High c.in_ok-high.high c.in_ok-high.ensures.problem;
    }
