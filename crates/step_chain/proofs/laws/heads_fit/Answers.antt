use Rattle.step_chain.proofs.OneStep.{all_fit}
use Rattle.step_chain.proofs.laws.heads_fit.Goals as goal

pub returns : goal.returns
returns c = all_fit c.constant_pairs.ensures.fit
