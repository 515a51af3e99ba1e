-- A cycle goes on at the next level, with one level fewer.
use Rattle.std.proofs.Common.{◌+◌, ◌*◌, length}
use Rattle.multigrid.proofs.levels.+multigrid.Given as goal

abbrev pub decreases-correct : goal.decreases-correct
decreases-correct l = 2 * length l.coarser.now

abbrev pub decreases-solve : goal.decreases-solve
decreases-solve l = 2 * length l.coarser.now + 1
