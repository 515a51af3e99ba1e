use Rattle.exact_histories.proofs.WholeRuns.{history_is_one}
use Rattle.exact_histories.proofs.runs.history_is_one.Goals as goal

pub returns : goal.returns
returns c = history_is_one
