use Rattle.convertible_reader.proofs.Common.{FileSet, LinesMay, [], each_number, layer_at, ℕ, ◌-◌, ◌≡◌}
use Rattle.std.specs.Prelude.{List}
use Rattle.convertible_reader.proofs.layers.layers_of.Given as goal

abbrev pub invariant-loop-k : goal.invariant-loop-k
invariant-loop-k g l =
    ((files : FileSet) → g.F.Folder.agrees l.folder files → each_number (layer_at files l.file l.grid l.settings l.stores) l.k (l.count - l.k) (l.properties, l.lines)
    ≡ each_number (layer_at files l.file l.grid l.settings l.stores) 0 l.count (record { properties = record { hk = []; hani = []; vka = []; ss = []; vkcb = [] }; sy = [] }, l.fn.lines))
    × ((files : FileSet) → g.F.Folder.agrees l.folder files → g.F.Folder.agrees l.fn.folder files) × (g.F.Folder.faults l.folder ≡ g.F.Folder.faults l.fn.folder)
    × ((name : List ℕ) → g.F.Folder.may l.fn.folder name → g.F.Folder.may l.folder name) × LinesMay (g.F.Folder.may l.folder) l.lines
