use Rattle.gentle_run.proofs.Enclosed.{certified_is_enclosed}
use Rattle.gentle_run.proofs.laws.certified_is_enclosed.Goals as goal

pub returns : goal.returns
returns c = certified_is_enclosed
