use Rattle.std.proofs.Common.{◌≡◌, None, replicate}
use Rattle.problem_builder.proofs.local.EntriesByCell.empty.Given as goal

abbrev pub invariant-loop-cell : goal.invariant-loop-cell
invariant-loop-cell l = l.cells.items ≡ replicate l._cell None
