use Rattle.settle_driver.proofs.Common.{refl, ap, is_some}
use Rattle.settle_driver.proofs.Phasing.{open_unfinished, settled_on_the_way, where_none, where_some}
use Rattle.settle_driver.proofs.open.words_or_open.Goals as goal

pub returns-in-None-clause-settles : goal.returns-in-None-clause-settles
returns-in-None-clause-settles c =
    λ b k way settles. settled_on_the_way c.args.p.now b c.recall_conditions.ensures.fits c.args.words.items way (where_none c.args.first _ _ (ap is_some c.in-None.is) c.requires)

pub returns-in-Some-clause-settles : goal.returns-in-Some-clause-settles
returns-in-Some-clause-settles c =
    λ b k way settles. open_unfinished c.args.p.now b c.recall_conditions.ensures.fits c.args.words.items k _ way settles refl
    (where_some c.args.first (c.in-Some.cell, c.in-Some.side) _ _ c.in-Some.is c.requires)
