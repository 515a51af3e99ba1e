use Rattle.model_writer.proofs.Common.{◌≡◌, ◌++◌, map, take, text, dis_item_7}
use Rattle.model_writer.proofs.discretization.push_times.Given as goal

abbrev pub invariant-loop-period : goal.invariant-loop-period
invariant-loop-period l = l.bytes.items ≡ l.fn.bytes.items ++ text (map dis_item_7 (take l.period-index l.periods))
