use Rattle.settle_driver.proofs.Common.{subst, PairKind, Gives}
use Rattle.settle_driver.proofs.trials.settle_near.Goals as goal

pub returns-in-Ok-None-clause-settles : goal.returns-in-Ok-None-clause-settles
returns-in-Ok-None-clause-settles g c =
    let P : PairKind → Type 0 = λ kind. Gives c.args.p.now kind c.args.b.now (g.S.Settler.rounds c.args.settler.now) c.settle.result in
    subst P c.requires.kinds.1 c.settle.ensures.settles
