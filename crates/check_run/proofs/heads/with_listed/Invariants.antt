use Rattle.check_run.proofs.Common.{variable_bounds, IsPartly}
use Rattle.check_run.proofs.heads.with_listed.Given as goal

abbrev pub invariant-loop-cell : goal.invariant-loop-cell
invariant-loop-cell l = IsPartly l.decks l.fn.at (variable_bounds l.decks l.fn.at l.listed) l.heads l.cell
