use Rattle.model_writer.proofs.Common.{◌≡◌, ◌++◌, take, flat_map, text, rch_items}
use Rattle.model_writer.proofs.areas.push_recharge_of_periods.Given as goal

abbrev pub invariant-loop-period : goal.invariant-loop-period
invariant-loop-period l = l.bytes.items ≡ l.fn.bytes.items ++ text (flat_map (rch_items l.model) (take l.period-index l.model.periods))
