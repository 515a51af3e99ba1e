use Rattle.step_or_refusal.proofs.Barrier.{cut_barrier_or_refusal}
use Rattle.step_or_refusal.proofs.laws.cut_barrier_or_refusal.Goals as goal

pub returns : goal.returns
returns c = cut_barrier_or_refusal
