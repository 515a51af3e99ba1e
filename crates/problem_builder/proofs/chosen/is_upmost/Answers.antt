use Rattle.problem_builder.proofs.Common.{◌&&◌, is_highest}
use Rattle.problem_builder.proofs.chosen.is_upmost.Goals as goal

pub returns-then-not-is_active : goal.returns-then-not-is_active
returns-then-not-is_active c = λ t. c.if-not-is_active.ensures t && is_highest c.args.model.now c.args.cell

pub returns : goal.returns
returns c = λ t. c.if-not-is_active.ensures t && c.is_highest.ensures t
