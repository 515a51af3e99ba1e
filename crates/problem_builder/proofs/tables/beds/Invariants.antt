use Rattle.problem_builder.specs.{Filled, no_span, IsBedBelow}
use Rattle.problem_builder.proofs.tables.beds.Given as goal

abbrev pub invariant-loop-cell : goal.invariant-loop-cell
invariant-loop-cell l = Filled (IsBedBelow l.model) no_span l.cell l.spans.items
