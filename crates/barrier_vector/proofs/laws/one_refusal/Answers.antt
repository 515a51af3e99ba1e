use Rattle.barrier_vector.proofs.OneAnswer.{refusal_is_one}
use Rattle.barrier_vector.proofs.laws.one_refusal.Goals as goal

pub returns : goal.returns
returns c = refusal_is_one
