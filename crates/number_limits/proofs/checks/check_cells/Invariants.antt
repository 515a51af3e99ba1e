use Rattle.number_limits.proofs.Common.{◌≡◌, ◌-◌, cell_step}
use Rattle.record_lines.specs.{each_number}
use Rattle.number_limits.proofs.checks.check_cells.Given as goal

abbrev pub invariant-loop-cell : goal.invariant-loop-cell
invariant-loop-cell l = each_number (cell_step l.model l.file l.check) l.cell (l.cells - l.cell) tt ≡ each_number (cell_step l.model l.file l.check) 0 l.cells tt
