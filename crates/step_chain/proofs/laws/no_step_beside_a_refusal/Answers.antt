use Rattle.step_chain.proofs.Refusals.{step_excludes}
use Rattle.step_chain.proofs.laws.no_step_beside_a_refusal.Goals as goal

pub returns : goal.returns
returns c = step_excludes c.problems_fit.ensures.fit c.no_barrier_beside_a_refusal.ensures c.no_cut_barrier_beside_a_refusal.ensures c.one_cut_barrier.ensures
    c.settled_pair.ensures.one c.no_certificate_beside_a_refusal.ensures
