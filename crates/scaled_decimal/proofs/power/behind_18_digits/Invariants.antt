use Rattle.std.proofs.Common.{◌≡◌, ◌<◌, ◌+◌, ◌*◌, ◌^◌, ◌≤◌, ◌-◌}
use Rattle.scaled_decimal.proofs.power.behind_18_digits.Given as goal

abbrev pub invariant-loop-unit : goal.invariant-loop-unit
invariant-loop-unit l = record { positive : 0 < l.unit; power : l.unit ≡ 10 ^ l.places; least : 10 ^ 17 * l.unit ≤ l.q }

abbrev pub decreases-loop-unit : goal.decreases-loop-unit
decreases-loop-unit l = l.rest + 1 - l.unit
