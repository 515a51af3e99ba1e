-- The folder and the sink in memory, as clauses see them.
use Rattle.std.specs.Prelude.{◌≡◌, ℕ, List, [], ◌∷◌, ◌++◌, take, cond, None, Some, Option, Ok, Err, Result, Contains}
use Rattle.std.specs.Bool.{nat_eq}
use Rattle.outside.specs.{Files.File, Puts.next_count, Puts.Seen, declared.traits.FolderError.FolderError, declared.traits.SinkError.SinkError}
use Rattle.outside.specs.declared.traits.FolderError.TheVariants as folder
use Rattle.outside.specs.declared.traits.SinkError.TheVariants as sink

-- the files, the latest first; how many bytes of one are read; the calls that must fail; the number of calls made; and of faults
pub record FolderState : Type 0 where
  pub files : List File
  pub limit : ℕ
  pub script : List ℕ
  pub calls : ℕ
  pub faults : ℕ

-- a put that must fail, and how much of its piece it keeps
pub record Failure : Type 0 where
  pub call : ℕ
  pub kept : ℕ

-- the bytes written, the puts that must fail, the number of puts made, and of faults
pub record SinkState : Type 0 where
  pub bytes : List ℕ
  pub script : List Failure
  pub calls : ℕ
  pub faults : ℕ

-- what a clause on any sink sees of it
abbrev pub seen_in_memory : SinkState → Seen
seen_in_memory s = record { written = Some s.bytes; faults = s.faults }

-- what the put of this number keeps, if the script names it
abbrev pub kept_at : List Failure → ℕ → Option ℕ
kept_at [] call = None
kept_at (f ∷ script) call = cond (nat_eq f.call call) (Some f.kept) (kept_at script call)

-- a call that the script names fails and is a fault; every other one returns a result
abbrev pub ReadsInMemory : {T : Type 0} → FolderState → Result T FolderError → FolderState → Type 0
ReadsInMemory old (Ok found) new = (Contains old.script (next_count old.calls) → ⊥) × (new ≡ record old { calls = next_count old.calls })
ReadsInMemory old (Err folder.Read) new = Contains old.script (next_count old.calls)
    × (new ≡ record old { calls = next_count old.calls; faults = next_count old.faults })
ReadsInMemory old (Err folder.Memory) new = (Contains old.script (next_count old.calls) → ⊥) × (new ≡ record old { calls = next_count old.calls })

-- a put that the script names fails, is a fault and keeps this much of its piece; every other one is
-- taken whole; a put that lacks memory keeps nothing, and is no fault
abbrev pub PutsInMemory : {T : Type 0} → SinkState → List ℕ → Result T SinkError → SinkState → Type 0
PutsInMemory old piece (Ok done) new = (kept_at old.script (next_count old.calls) ≡ None)
    × (new ≡ record old { bytes = old.bytes ++ piece; calls = next_count old.calls })
PutsInMemory old piece (Err sink.Write) new = (kept : ℕ) × (kept_at old.script (next_count old.calls) ≡ Some kept)
    × (new ≡ record old { bytes = old.bytes ++ take kept piece; calls = next_count old.calls; faults = next_count old.faults })
PutsInMemory old piece (Err sink.Memory) new = new ≡ record old { calls = next_count old.calls }
