use Rattle.run_puts.proofs.Common.{◌≡◌, ◌++◌, List, JobEnd, first_not_ok}
use Rattle.run_puts.proofs.puts.first_status.Given as goal

abbrev pub invariant-loop-end : goal.invariant-loop-end
invariant-loop-end l = (gone : List JobEnd) × (l.initial.ends.items ≡ l.ends.items ++ gone) × (l.status ≡ first_not_ok gone)

abbrev pub decreases-loop-end : goal.decreases-loop-end
decreases-loop-end l = goal.left-loop-end l
