use Rattle.barrier_vector.specs.{AreLabels}
use Rattle.barrier_vector.proofs.spread.label_components.Given as goal

abbrev pub invariant-loop-c : goal.invariant-loop-c
invariant-loop-c l = AreLabels l.p l.labels.items l.c
