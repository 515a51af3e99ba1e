use Rattle.step_chain.proofs.Assembled.{IsPartly}
use Rattle.step_chain.proofs.step.fill_in.Given as goal

abbrev pub invariant-loop-cell : goal.invariant-loop-cell
invariant-loop-cell l = IsPartly l.decks l.fn.at l.bounds l.heads l.cell
