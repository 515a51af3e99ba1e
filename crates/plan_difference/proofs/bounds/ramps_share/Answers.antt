use Rattle.plan_difference.proofs.Shares.{ramps_share}
use Rattle.plan_difference.proofs.bounds.ramps_share.Goals as goal

pub returns : goal.returns
returns c = ramps_share
