use Rattle.gentle_histories.proofs.Histories.{histories_exist}
use Rattle.gentle_histories.proofs.laws.histories_exist.Goals as goal

pub returns : goal.returns
returns c = histories_exist
