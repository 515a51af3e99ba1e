use Rattle.plan_chain.proofs.ByCell.{ArePlaced}
use Rattle.plan_chain.proofs.differences.by_cell.Given as goal

abbrev pub invariant-loop-k : goal.invariant-loop-k
invariant-loop-k l = ArePlaced l.count l.problem l.bounds l.all.items l.k
