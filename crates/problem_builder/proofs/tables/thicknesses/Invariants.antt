use Rattle.problem_builder.specs.{Filled, no_span, IsThickness}
use Rattle.problem_builder.proofs.tables.thicknesses.Given as goal

abbrev pub invariant-loop-cell : goal.invariant-loop-cell
invariant-loop-cell l = Filled (IsThickness l.model) no_span l.cell l.spans.items
