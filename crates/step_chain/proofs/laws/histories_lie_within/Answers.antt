use Rattle.step_chain.proofs.Histories.{histories_within}
use Rattle.step_chain.proofs.laws.histories_lie_within.Goals as goal

pub returns : goal.returns
returns c = histories_within c.start_heads.ensures.fit c.start_heads.ensures.enclose c.steps_enclose.ensures c.heads_fit.ensures
