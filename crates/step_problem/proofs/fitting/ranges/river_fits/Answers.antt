use Rattle.std.proofs.Common.{rules}
use Rattle.step_problem.proofs.fitting.ranges.river_fits.Goals.{then-x, else-x}
use Rattle.step_problem.proofs.fitting.ranges.river_fits.Goals as goal

pub returns-then-are_heads : goal.returns-then-are_heads
returns-then-are_heads c = elim c.if-x.branch [ then-x w ↦ search rules | else-x w ↦ search rules ]
