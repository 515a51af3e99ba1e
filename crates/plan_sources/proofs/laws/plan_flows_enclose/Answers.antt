use Rattle.plan_sources.proofs.Enclosing.{flows_enclose}
use Rattle.plan_sources.proofs.laws.plan_flows_enclose.Goals as goal

pub returns : goal.returns
returns c = flows_enclose c.problems_fit.ensures.fit c.steps_enclose.ensures c.certificate_encloses.ensures c.planned_lie_between.ensures c.planned_steps.ensures
    c.wells_keep_apart.ensures.members c.solutions_bound_plans.ensures c.plan_steps_enclose.ensures c.sources_enclose.ensures c.zones_enclose.ensures
