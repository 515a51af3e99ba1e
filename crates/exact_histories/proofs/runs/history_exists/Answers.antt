use Rattle.exact_histories.proofs.WholeRuns.{history_exists}
use Rattle.exact_histories.proofs.runs.history_exists.Goals as goal

pub returns : goal.returns
returns c = history_exists
