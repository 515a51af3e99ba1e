use Rattle.model_writer.proofs.Common.{◌≡◌, ◌++◌, take, flat_map, text, evt_items}
use Rattle.model_writer.proofs.areas.push_evaporation_of_periods.Given as goal

abbrev pub invariant-loop-period : goal.invariant-loop-period
invariant-loop-period l = l.bytes.items ≡ l.fn.bytes.items ++ text (flat_map (evt_items l.model) (take l.period-index l.model.periods))
