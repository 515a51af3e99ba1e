use Rattle.plan_chain.proofs.Walking.{pairs_within}
use Rattle.plan_chain.proofs.laws.pairs_lie_within.Goals as goal

pub returns : goal.returns
returns c = pairs_within c.start_heads.ensures.fit c.start_heads.ensures.enclose c.planned_lie_between.ensures c.plan_steps_enclose.ensures c.heads_fit.ensures
