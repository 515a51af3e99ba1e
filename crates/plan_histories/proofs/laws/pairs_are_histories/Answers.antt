use Rattle.plan_histories.proofs.Pairs.{pairs_are_histories}
use Rattle.plan_histories.proofs.laws.pairs_are_histories.Goals as goal

pub returns : goal.returns
returns c = pairs_are_histories
