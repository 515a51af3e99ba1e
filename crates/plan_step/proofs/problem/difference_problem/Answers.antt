use Rattle.plan_step.proofs.Fits.{is_problem}
use Rattle.plan_step.proofs.problem.difference_problem.Goals as goal

pub new-requires : goal.new-requires
new-requires c =
    is_problem c.args.base.now c.args.planned.now c.args.base_heads.now c.args.planned_heads.now c.args.old.now c.in_ok-cells.cells.items
    c.recall_conditions.ensures.fits c.recall_conditions-2.ensures.fits
    c.requires.old c.requires.as_many c.in_ok-cells.ensures
