use Rattle.plan_check.proofs.Common.{AreReached, ReachesZero}
use Rattle.plan_check.proofs.differences.first_apart.Given as goal

abbrev pub invariant-loop-cell : goal.invariant-loop-cell
invariant-loop-cell l = AreReached l.decks l.fn.at (ReachesZero l.differences) l.cell
