use Rattle.array_reader.proofs.Common.{◌≡◌, ℕ, ◌-◌, LinesMay, appended_readings, with_front, layer_array, FileSet}
use Rattle.std.specs.Prelude.{List}
use Rattle.array_reader.proofs.layers.read_layers.Given as goal

abbrev pub invariant-loop : goal.invariant-loop
invariant-loop g l =
    ((files : FileSet) → g.F.Folder.agrees l.folder files → with_front l.values.items (appended_readings (l.count - l.counter) (layer_array g.V.Value.kind files l.file l.rows l.cols) l.lines)
    ≡ appended_readings l.count (layer_array g.V.Value.kind files l.file l.rows l.cols) l.fn.lines)
    × ((files : FileSet) → g.F.Folder.agrees l.folder files → g.F.Folder.agrees l.fn.folder files) × (g.F.Folder.faults l.folder ≡ g.F.Folder.faults l.fn.folder)
    × ((name : List ℕ) → g.F.Folder.may l.fn.folder name → g.F.Folder.may l.folder name) × LinesMay (g.F.Folder.may l.folder) l.lines
