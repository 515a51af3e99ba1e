use Rattle.plan_run.proofs.OneListing.{one_plan_listing}
use Rattle.plan_run.proofs.laws.one_plan_listing.Goals as goal

pub returns : goal.returns
returns c = one_plan_listing c.settled_pair.ensures.one c.one_cut_barrier.ensures c.no_barrier_beside_a_refusal.ensures
    c.no_cut_barrier_beside_a_refusal.ensures c.one_refusal.ensures c.one_cut_refusal.ensures c.no_certificate_beside_a_refusal.ensures
    c.one_range_refusal.ensures c.one_step.ensures c.no_step_beside_a_refusal.ensures c.one_refusal-2.ensures c.problems_fit.ensures.fit
    c.start_heads.ensures.one c.start_heads.ensures.fit c.heads_fit.ensures c.plan_steps_enclose.ensures
