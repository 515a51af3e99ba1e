use Rattle.problem_builder.specs.{Filled, no_pair, HasConductance}
use Rattle.problem_builder.proofs.faces.pairs.Given as goal

abbrev pub invariant-loop-cell : goal.invariant-loop-cell
invariant-loop-cell l = Filled (HasConductance l.model l.s l.axis) no_pair l.cell l.pairs.items
