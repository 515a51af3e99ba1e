use Rattle.certificate_check.proofs.Cut.{range_refusal_is_one}
use Rattle.certificate_check.proofs.laws.one_range_refusal.Goals as goal

pub returns : goal.returns
returns c = range_refusal_is_one
