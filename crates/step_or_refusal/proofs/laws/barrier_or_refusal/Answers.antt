use Rattle.step_or_refusal.proofs.Barrier.{barrier_or_refusal}
use Rattle.step_or_refusal.proofs.laws.barrier_or_refusal.Goals as goal

pub returns : goal.returns
returns c = barrier_or_refusal
