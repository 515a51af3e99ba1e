use Rattle.step_chain.proofs.OneStep.{steps_one}
use Rattle.step_chain.proofs.laws.one_step.Goals as goal

pub returns : goal.returns
returns c = steps_one c.problems_fit.ensures.fit c.constant_pairs.ensures.one c.one_cut_barrier.ensures c.settled_pair.ensures.one
