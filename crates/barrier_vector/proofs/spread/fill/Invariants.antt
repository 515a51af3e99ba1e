use Rattle.barrier_vector.proofs.Common.{◌+◌, ◌*◌, length, count_unmarked}
use Rattle.barrier_vector.proofs.Labelling.{Filling}
use Rattle.barrier_vector.proofs.spread.fill.Given as goal

abbrev pub invariant-loop-alloc : goal.invariant-loop-alloc
invariant-loop-alloc l = Filling l.p l.cell l.fn.labels l.labels l.frontier.items

abbrev pub decreases-loop-alloc : goal.decreases-loop-alloc
decreases-loop-alloc l = 2 * count_unmarked l.labels + length l.frontier.items
