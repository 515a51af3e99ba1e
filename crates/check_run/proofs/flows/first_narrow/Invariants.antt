use Rattle.std.proofs.Common.{drop}
use Rattle.check_run.proofs.Firsts.{GoesOn}
use Rattle.check_run.proofs.flows.first_narrow.Given as goal

abbrev pub invariant-loop-place : goal.invariant-loop-place
invariant-loop-place l = GoesOn l.listed l.computed (drop l.place l.listed) (drop l.place l.computed)
