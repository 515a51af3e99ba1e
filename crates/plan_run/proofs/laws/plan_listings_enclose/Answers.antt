use Rattle.plan_run.proofs.Enclosing.{listings_enclose}
use Rattle.plan_run.proofs.laws.plan_listings_enclose.Goals as goal

pub returns : goal.returns
returns c = listings_enclose c.start_heads.ensures.fit c.start_heads.ensures.enclose c.planned_lie_between.ensures c.plan_steps_enclose.ensures
    c.heads_fit.ensures c.plan_flows_enclose.ensures c.both_have_one.ensures
