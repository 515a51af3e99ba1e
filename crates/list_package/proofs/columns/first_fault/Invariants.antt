use Rattle.list_package.proofs.Common.{◌≡◌, drop, first_fault}
use Rattle.list_package.proofs.columns.first_fault.Given as goal

abbrev pub invariant-loop-k : goal.invariant-loop-k
invariant-loop-k l = first_fault (drop l.k l.columns) (drop l.k l.numbers) ≡ first_fault l.columns l.numbers
