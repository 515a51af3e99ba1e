use Rattle.problem_builder.proofs.Common.{◌≡◌, take, table}
use Rattle.problem_builder.proofs.given.last_entries.Given as goal

abbrev pub invariant-loop-x : goal.invariant-loop-x
invariant-loop-x l = l.table ≡ table l.count (take l.x-index l.list)
