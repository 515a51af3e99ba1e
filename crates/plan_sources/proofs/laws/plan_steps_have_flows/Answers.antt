use Rattle.plan_sources.proofs.Steps.{steps_have_flows}
use Rattle.plan_sources.proofs.laws.plan_steps_have_flows.Goals as goal

pub returns : goal.returns
returns c = steps_have_flows
