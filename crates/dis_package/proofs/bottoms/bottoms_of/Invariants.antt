use Rattle.dis_package.proofs.Common.{◌≡◌, ℕ, ◌-◌, [], FileSet, LinesMay, each_number, bottom_at}
use Rattle.std.specs.Prelude.{List}
use Rattle.dis_package.proofs.bottoms.bottoms_of.Given as goal

abbrev pub invariant-loop-k : goal.invariant-loop-k
invariant-loop-k g l =
    ((files : FileSet) → g.F.Folder.agrees l.folder files → each_number (bottom_at files l.file l.size l.laycbd) l.k (l.count - l.k) (l.bottoms, l.lines)
    ≡ each_number (bottom_at files l.file l.size l.laycbd) 0 l.count (record { layers = []; beds = [] }, l.fn.lines))
    × ((files : FileSet) → g.F.Folder.agrees l.folder files → g.F.Folder.agrees l.fn.folder files) × (g.F.Folder.faults l.folder ≡ g.F.Folder.faults l.fn.folder)
    × ((name : List ℕ) → g.F.Folder.may l.fn.folder name → g.F.Folder.may l.folder name) × LinesMay (g.F.Folder.may l.folder) l.lines
