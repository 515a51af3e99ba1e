use Rattle.std.proofs.Common.{rules}
use Rattle.step_problem.proofs.fitting.ranges.evap_fits.Goals.{then-is_ordered, else-is_ordered}
use Rattle.step_problem.proofs.fitting.ranges.evap_fits.Goals as goal

pub returns-then-are_heads : goal.returns-then-are_heads
returns-then-are_heads c = elim c.if-is_ordered.branch [ then-is_ordered w ↦ search rules | else-is_ordered w ↦ search rules ]
