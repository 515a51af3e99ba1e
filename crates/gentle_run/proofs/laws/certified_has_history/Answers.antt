use Rattle.gentle_run.proofs.Existing.{certified_has_history}
use Rattle.gentle_run.proofs.laws.certified_has_history.Goals as goal

pub returns : goal.returns
returns c = certified_has_history
