use Rattle.gentle_budget.proofs.Common.{◌≡◌, take, side_words}
use Rattle.gentle_budget.proofs.side.side_words.Given as goal

abbrev pub invariant-loop-k : goal.invariant-loop-k
invariant-loop-k l = l.words.items ≡ side_words l.listed l.side (take l.k l.problem)
