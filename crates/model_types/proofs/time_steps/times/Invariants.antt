use Rattle.model_types.proofs.Common.{◌≡◌, range_with_len, flat_map, steps_of}
use Rattle.model_types.proofs.time_steps.times.Given as goal

abbrev pub invariant-loop-p : goal.invariant-loop-p
invariant-loop-p l = l.steps.items ≡ flat_map (steps_of l.model) (range_with_len 1 l.p)
