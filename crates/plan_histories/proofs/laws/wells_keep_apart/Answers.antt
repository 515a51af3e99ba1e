use Rattle.plan_histories.proofs.Apart.{members_apart, readers_apart}
use Rattle.plan_histories.proofs.laws.wells_keep_apart.Goals as goal

pub returns : goal.returns
returns c = record { readers = readers_apart; members = members_apart }
