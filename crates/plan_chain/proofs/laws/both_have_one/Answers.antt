use Rattle.plan_chain.proofs.Walking.{both_have_one}
use Rattle.plan_chain.proofs.laws.both_have_one.Goals as goal

pub returns : goal.returns
returns c = both_have_one
