use Rattle.step_or_refusal.proofs.Step.{a_step}
use Rattle.step_or_refusal.proofs.laws.step_or_refusal.Goals as goal

pub returns : goal.returns
returns c = a_step c.problems_fit.ensures c.barrier_or_refusal.ensures c.cut_barrier_or_refusal.ensures c.settled_pair.ensures.exists
