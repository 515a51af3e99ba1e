use Rattle.std.proofs.Common.{refl}
use Rattle.settle_driver.proofs.Viewing.{phases_ended}
use Rattle.settle_driver.proofs.watch_by.WatchedClosureSettlerSettler.settle.Goals as goal

pub returns-clause-settles : goal.returns-clause-settles
returns-clause-settles g c = ((c.requires.ready c.args.alloc c.args.p c.args.b _ c.requires.barrier).1 c.call.result _ c.call.ensures).0

pub returns-clause-leads : goal.returns-clause-leads
returns-clause-leads g c = (refl, refl, phases_ended _ _ _ _ c.call.result _ _ _ ((c.requires.ready c.args.alloc c.args.p c.args.b _ c.requires.barrier).1 c.call.result _ c.call.ensures).1)
