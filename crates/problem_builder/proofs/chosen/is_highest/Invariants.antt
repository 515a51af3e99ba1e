use Rattle.problem_builder.proofs.Common.{◌≡◌, is_highest}
use Rattle.problem_builder.proofs.chosen.is_highest.Given as goal

abbrev pub invariant-loop-above : goal.invariant-loop-above
invariant-loop-above l = is_highest l.model l.above ≡ is_highest l.model l.cell

abbrev pub decreases-loop-above : goal.decreases-loop-above
decreases-loop-above l = l.above
