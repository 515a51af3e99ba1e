use Rattle.std.proofs.Common.{refl}
use Rattle.barrier_vector.proofs.Spreading.{spread_link}
use Rattle.barrier_vector.proofs.spread.spread_from.Goals as goal

pub loop-x-preserved : goal.loop-x-preserved
loop-x-preserved c = spread_link c.args.links.now c.loop-x.x-index _ c.args.mark _ _ _ _ _ _ refl c.loop-x.invariant c.in_ok-mark_cell.ensures
