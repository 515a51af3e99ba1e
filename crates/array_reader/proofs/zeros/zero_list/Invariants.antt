use Rattle.array_reader.proofs.Common.{◌≡◌, ◌-◌, each_number, beginning, zero_step}
use Rattle.array_reader.proofs.zeros.zero_list.Given as goal

abbrev pub invariant-loop-i : goal.invariant-loop-i
invariant-loop-i l = each_number (zero_step l.file) l.i (l.count - l.i) (l.free, l.lines) ≡ each_number (zero_step l.file) 0 l.count (beginning, l.fn.lines)
