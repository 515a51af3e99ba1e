use Rattle.plan_conductances.proofs.TwoPlans.{well_lies_between}
use Rattle.plan_conductances.proofs.laws.well_lies_between.Goals as goal

pub returns : goal.returns
returns c = well_lies_between
