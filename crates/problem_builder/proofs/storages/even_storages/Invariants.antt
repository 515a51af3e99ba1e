use Rattle.problem_builder.specs.{Filled, HasEvenStorage, no_pair}
use Rattle.problem_builder.proofs.storages.even_storages.Given as goal

abbrev pub invariant-loop-cell : goal.invariant-loop-cell
invariant-loop-cell l = Filled (HasEvenStorage l.model l.tables.digits l.number) no_pair l.cell l.pairs.items
