use Rattle.barrier_vector.proofs.Common.{◌≡◌, ◌+◌, ◌*◌, length, count_unmarked}
use Rattle.barrier_vector.proofs.Levels.{IsUpTo}
use Rattle.barrier_vector.proofs.search.search.Given as goal

abbrev pub invariant-loop-left : goal.invariant-loop-left
invariant-loop-left l = record {
  up_to : IsUpTo l.p l.q l.own l.level l.levels.items l.paths.items l.frontier.items;
  left : l.left ≡ count_unmarked l.levels.items;
}

abbrev pub decreases-loop-left : goal.decreases-loop-left
decreases-loop-left l = 2 * l.left + length l.frontier.items
