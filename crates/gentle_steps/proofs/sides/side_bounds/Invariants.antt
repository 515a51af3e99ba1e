use Rattle.gentle_steps.proofs.Common.{◌≡◌, map, side_bound, range_with_len}
use Rattle.gentle_steps.proofs.sides.side_bounds.Given as goal

abbrev pub invariant-loop-cell : goal.invariant-loop-cell
invariant-loop-cell l = l.bounds.items ≡ map (side_bound l.model l.at l.listed l.side) (range_with_len 0 l.cell)
