use Rattle.problem_builder.proofs.Common.{◌≡◌, map, range_with_len, known_bound}
use Rattle.problem_builder.proofs.heads.constant_heads.Given as goal

abbrev pub invariant-loop-cell : goal.invariant-loop-cell
invariant-loop-cell l = l.bounds.items ≡ map (known_bound l.model l.at) (range_with_len 0 l.cell)
