use Rattle.convertible_reader.proofs.Common.{each_number, yield_step, ◌-◌, ◌≡◌}
use Rattle.convertible_reader.proofs.yields.yields_tested.Given as goal

abbrev pub invariant-loop-cell : goal.invariant-loop-cell
invariant-loop-cell l = each_number (yield_step l.model l.layers l.file) l.cell (l.cells - l.cell) tt ≡ each_number (yield_step l.model l.layers l.file) 0 l.cells tt
