use Rattle.barrier_vector.proofs.Cutting.{cut_barrier_excludes_refusal}
use Rattle.barrier_vector.proofs.laws.no_cut_barrier_beside_a_refusal.Goals as goal

pub returns : goal.returns
returns c = cut_barrier_excludes_refusal
