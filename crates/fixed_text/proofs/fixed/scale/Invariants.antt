use Rattle.std.proofs.Common.{◌≡◌, ◌^◌, ◌<◌}
use Rattle.fixed_text.proofs.fixed.scale.Given as goal

abbrev pub invariant-loop : goal.invariant-loop
invariant-loop l = (l.scale ≡ 10 ^ l.counter) × (0 < l.scale)
