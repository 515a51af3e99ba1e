use Rattle.problem_builder.specs.{AreCellsOver, branches_of}
use Rattle.problem_builder.proofs.builder.cells.Given as goal

abbrev pub invariant-loop-number : goal.invariant-loop-number
invariant-loop-number l = AreCellsOver l.input.model l.input.tables.digits l.input.at l.input.old (branches_of l.input) l.number l.cells.items
