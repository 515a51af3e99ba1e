use Rattle.period_arrays.proofs.Common.{nothing_yet, ◌≡◌, ℕ, drop, take, LinesMay, for_each, IsInForce, period_at, with_front, FileSet}
use Rattle.std.specs.Prelude.{List}
use Rattle.period_arrays.proofs.periods.read_periods.Given as goal

abbrev pub invariant-loop-period : goal.invariant-loop-period
invariant-loop-period g l =
    ((files : FileSet) → g.F.Folder.agrees l.folder files →
    with_front (take l.period-index l.periods) (for_each (period_at g.P.ArrayPackage.kind files l.file l.grid l.ibound l.option)
    (drop l.period-index l.periods) (l.before, l.lines))
    ≡ for_each (period_at g.P.ArrayPackage.kind files l.file l.grid l.ibound l.option) l.fn.periods (nothing_yet, l.fn.lines))
    × ((files : FileSet) → g.F.Folder.agrees l.folder files → g.F.Folder.agrees l.fn.folder files) × (g.F.Folder.faults l.folder ≡ g.F.Folder.faults l.fn.folder)
    × IsInForce g.P.ArrayPackage.kind.evaporates l.grid l.option l.before
    × ((name : List ℕ) → g.F.Folder.may l.fn.folder name → g.F.Folder.may l.folder name) × LinesMay (g.F.Folder.may l.folder) l.lines
