use Rattle.step_problem.proofs.Pairs.{either_gives}
use Rattle.certified_pair.proofs.quick.QuickPairsSettler.settle.Goals as goal

pub returns-in-Ok-None-clause-settles : goal.returns-in-Ok-None-clause-settles
returns-in-Ok-None-clause-settles g c =
    either_gives c.args.p.now c.args.b.now c.recall_conditions.ensures.fits c.requires.barrier g.S.Settler.pairs (g.S.Settler.rounds c.args.self.now.settler) c.settle.result c.settle.ensures.settles
