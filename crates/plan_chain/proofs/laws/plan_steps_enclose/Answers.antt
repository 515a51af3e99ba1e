use Rattle.plan_chain.proofs.Enclosing.{encloses_pairs}
use Rattle.plan_chain.proofs.laws.plan_steps_enclose.Goals as goal

pub returns : goal.returns
returns c = encloses_pairs c.problems_fit.ensures.fit c.steps_enclose.ensures c.certificate_encloses.ensures c.planned_lie_between.ensures c.planned_steps.ensures
    c.wells_keep_apart.ensures.members c.solutions_bound_plans.ensures
