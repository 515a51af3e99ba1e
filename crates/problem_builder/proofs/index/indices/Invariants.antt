use Rattle.problem_builder.proofs.Common.{◌≡◌, index_of, Filled, IsIndex}
use Rattle.problem_builder.proofs.index.indices.Given as goal

abbrev pub invariant-loop-cell : goal.invariant-loop-cell
invariant-loop-cell l = record {
  filled : Filled (IsIndex l.model l.given.period) 0 l.cell l.indices.items;
  index : l.index ≡ index_of l.model l.given.period l.cell;
}
