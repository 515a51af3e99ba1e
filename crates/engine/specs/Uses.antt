-- What a run did with its folder and its sinks.
use Rattle.std.specs.Prelude.{ℕ, List, ◌⊎◌}
use Rattle.outside.specs.{FileSet, Put, Rose, Seen, declared.traits.Folder.Ghosts as FolderOf, declared.traits.Sink.Ghosts as SinkOf}

-- What a run did with its folder.
pub record FolderUse : Type 1 where
  -- The files that agree with all that the folder has answered.
  pub agrees : FileSet → Type 0
  -- The number of its faults before the run, and after it.
  pub before : ℕ
  pub after : ℕ

-- What a run did with a sink.
pub record SinkUse : Type 1 where
  -- The puts that take the sink from its state before the run to its state after it.
  pub leads : List Put → Type 0
  -- Its bytes and the number of its faults before the run, and after it.
  pub old : Seen
  pub new : Seen

abbrev pub folder_use : {S : Type 0} → FolderOf S → (old new : S) → FolderUse
folder_use F old new = record { agrees = F.agrees new; before = F.faults old; after = F.faults new }

abbrev pub sink_use : {S : Type 0} → SinkOf S → (old new : S) → SinkUse
sink_use K old new = record { leads = λ puts. K.leads old puts new; old = K.seen old; new = K.seen new }

-- a write to the sink failed
abbrev pub failed_write : SinkUse → Type 0
failed_write sink = Rose sink.old.faults sink.new.faults

-- something outside failed: a read, or a write
abbrev pub HasFailed : FolderUse → (beside out : SinkUse) → Type 0
HasFailed folder beside out = Rose folder.before folder.after ⊎ (failed_write out ⊎ failed_write beside)
