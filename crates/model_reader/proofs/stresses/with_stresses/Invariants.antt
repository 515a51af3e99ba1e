use Rattle.model_reader.proofs.Common.{◌≡◌, Ok, FileSet, stresses, with_stresses, drop, ReadsOn, HasSize, NamesMay}
use Rattle.model_reader.proofs.stresses.with_stresses.Given as goal

abbrev pub invariant-loop-asked : goal.invariant-loop-asked
invariant-loop-asked g l =
    ReadsOn g.F.Folder l.fn.folder l.folder (Ok l.model)
    × ((files : FileSet) → g.F.Folder.agrees l.folder files → with_stresses l.limits files l.names (drop l.asked-index stresses) l.model ≡ with_stresses l.limits files l.names stresses l.fn.model)
    × NamesMay (g.F.Folder.may l.folder) l.names
    × HasSize l.model.grid
