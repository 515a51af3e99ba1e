use Rattle.evt_package.proofs.Common.{◌≡◌, ◌-◌, column_step}
use Rattle.record_lines.specs.{each_number}
use Rattle.evt_package.proofs.columns.test_columns.Given as goal

abbrev pub invariant-loop-column : goal.invariant-loop-column
invariant-loop-column l = each_number (column_step l.file l.grid l.ibound l.option l.area) l.column (l.columns - l.column) tt ≡
    each_number (column_step l.file l.grid l.ibound l.option l.area) 0 l.columns tt
