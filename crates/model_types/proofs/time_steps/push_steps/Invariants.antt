use Rattle.model_types.proofs.Common.{◌≡◌, ◌++◌, map, range_with_len}
use Rattle.model_types.proofs.time_steps.push_steps.Given as goal

abbrev pub invariant-loop-n : goal.invariant-loop-n
invariant-loop-n l = l.steps.items ≡ l.fn.steps.items ++ map (λ n. record { period = l.period; step = n }) (range_with_len 1 l.n)
