use Rattle.plan_histories.proofs.Pairs.{pairs_have_one}
use Rattle.plan_histories.proofs.laws.pairs_have_one.Goals as goal

pub returns : goal.returns
returns c = pairs_have_one
