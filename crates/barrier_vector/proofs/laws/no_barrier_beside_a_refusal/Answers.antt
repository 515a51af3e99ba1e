use Rattle.barrier_vector.proofs.OneAnswer.{barrier_excludes_refusal}
use Rattle.barrier_vector.proofs.laws.no_barrier_beside_a_refusal.Goals as goal

pub returns : goal.returns
returns c = barrier_excludes_refusal
