use Rattle.gentle_problem.proofs.Common.{Filled, no_pair, HasPairAt}
use Rattle.gentle_problem.proofs.pairs.pairs_along.Given as goal

abbrev pub invariant-loop-cell : goal.invariant-loop-cell
invariant-loop-cell l = Filled (HasPairAt l.model l.layers l.heads l.s l.axis) no_pair l.cell l.pairs.items
