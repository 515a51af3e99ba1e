use Rattle.gentle_run.proofs.OneVerdict.{verdict_is_one}
use Rattle.gentle_run.proofs.laws.one_verdict.Goals as goal

pub returns : goal.returns
returns c = verdict_is_one
