-- What a reading does to the folder that it is given.
use Rattle.std.specs.Prelude.{ℕ, List, Result}
use Rattle.outside.specs.{Files.FileSet, Puts.InputCounts, declared.traits.Folder.Ghosts as FolderOf, declared.inputs.InputFault.InputFault}

-- files that agree with the folder after the reading agreed with it before; only a read fault raised its count; and what it
-- might be asked for before it may be asked for after
pub record ReadsOn {S T : Type 0} (F : FolderOf S) (old new : S) (result : Result T InputFault) : Type 0 where
  pub since : (files : FileSet) → F.agrees new files → F.agrees old files
  pub counts : InputCounts (F.faults old) (F.faults new) result
  pub still : (name : List ℕ) → F.may old name → F.may new name
