use Rattle.plan_step.proofs.Fits.{pushed}
use Rattle.plan_step.proofs.problem.difference_cells.Goals as goal

pub loop-c-preserved : goal.loop-c-preserved
loop-c-preserved c =
    rw c.in_ok-push.ensures.items
    (pushed c.args.base.now c.args.planned.now c.args.base_heads.now c.args.planned_heads.now c.args.old.now c.loop-c.cells.items c.in_ok-cell.cell c.loop-c.c
    c.loop-c.invariant.0 c.loop-c.invariant.1 c.in_ok-cell.ensures)
