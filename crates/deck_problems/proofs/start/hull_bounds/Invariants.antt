use Rattle.deck_problems.proofs.Hulled.{IsHulled}
use Rattle.deck_problems.proofs.start.hull_bounds.Given as goal

abbrev pub invariant-loop-cell : goal.invariant-loop-cell
invariant-loop-cell l = IsHulled l.fn.first l.second l.hulls l.cell
