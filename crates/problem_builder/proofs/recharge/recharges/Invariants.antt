use Rattle.problem_builder.proofs.Common.{None, Filled, IsRecharged}
use Rattle.problem_builder.proofs.recharge.recharges.Given as goal

abbrev pub invariant-loop-cell : goal.invariant-loop-cell
invariant-loop-cell l = Filled (IsRecharged l.model l.s l.number) None l.cell l.pairs
