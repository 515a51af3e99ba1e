-- What a run puts to its sink and how it ends, whatever its pieces are: `Due end pieces` says which pieces are due if a run
-- ends so, and `Cut pieces` which pieces it may have put when memory runs out.
use Rattle.std.specs.Prelude.{List, [], ◌∷◌, ◌++◌, map, ℕ, codes, Ok, Err, Result, ◌≡◌, ◌⊎◌, Option, None, Some}
use Rattle.outside.specs.{Put, whole_put, failed_put, declared.traits.SinkError.SinkError}
use Rattle.run_puts.specs.declared.puts.Status.{Status}
use Rattle.outside.specs.declared.traits.SinkError.TheVariants as error
use Rattle.run_puts.specs.declared.puts.Status.TheVariants as status

-- The last lines that are the same in each run.
-- the bytes of a piece
abbrev pub Text : Type 0
Text = List ℕ

abbrev pub end_line : Text
end_line = codes "END\n"

abbrev pub read_fault_line : Text
read_fault_line = codes "READFAULT\n"

abbrev pub memory_line : Text
memory_line = codes "MEMORY\n"

-- How a run stops before all its pieces are put.
-- the put of the line MEMORY, with this result
abbrev pub memory_put : Result (Unit {0}) SinkError → Put
memory_put answer = record { piece = memory_line; answer = answer }

-- the status after the put of the line MEMORY with this result
abbrev pub status_after : Result (Unit {0}) SinkError → Status
status_after (Ok done) = status.Memory
status_after (Err error.Write) = status.WriteFault
status_after (Err error.Memory) = status.Memory

-- The last puts of a run with these pieces left: the write of the next one failed, memory ran out, or the sink had no
-- memory for the next one. Nothing follows a failed write.
pub data IsTail : List Text → Status → List Put → Type 0 where
  failed : (piece : Text) (after : List Text) → IsTail (piece ∷ after) status.WriteFault (failed_put piece error.Write ∷ [])
  wanting : (after : List Text) (answer : Result (Unit {0}) SinkError) → IsTail after (status_after answer) (memory_put answer ∷ [])
  sink_wanting : (piece : Text) (after : List Text) (answer : Result (Unit {0}) SinkError) →
      IsTail (piece ∷ after) (status_after answer) (failed_put piece error.Memory ∷ memory_put answer ∷ [])

-- How a run may stop early that has put some pieces whole and has others left: it has put none, and has none; of all that are
-- due for some end at least one is left; or it breaks off with some, of which any are left.
pub data Begins (Due : Status → List Text → Type 0) (Cut : List Text → Type 0) : List Text → List Text → Type 0 where
  nothing : Begins Due Cut [] []
  all_due : (end : Status) (before : List Text) (next : Text) (after : List Text) → Due end (before ++ (next ∷ after)) → Begins Due Cut before (next ∷ after)
  cut : (before after : List Text) → Cut (before ++ after) → Begins Due Cut before after

-- A run that ends so puts these: all pieces that are due, each taken whole; or it stops early, after some whole pieces.
pub data IsRun (Due : Status → List Text → Type 0) (Cut : List Text → Type 0) : Status → List Put → Type 0 where
  whole : (end : Status) (pieces : List Text) → Due end pieces → IsRun Due Cut end (map whole_put pieces)
  early : (end : Status) (before after : List Text) (tail : List Put) → Begins Due Cut before after →
      IsTail after end tail → IsRun Due Cut end (map whole_put before ++ tail)

-- A run that doesn't break off by itself: whatever it has put is a beginning of pieces that are due.
abbrev pub NeverCut : List Text → Type 0
NeverCut pieces = ⊥

-- What the calls of a run put.
-- the puts of a piece: it was taken and the run continues, or the run ends with this status, whatever pieces follow this one
abbrev pub IsPut : Text → Option Status → List Put → Type 0
IsPut piece None puts = puts ≡ whole_put piece ∷ []
IsPut piece (Some end) puts = (after : List Text) → IsTail (piece ∷ after) end puts

-- the puts of a last line: it was taken and the run ends with the status meant, or it wasn't taken
abbrev pub IsLast : Text → Status → Status → List Put → Type 0
IsLast line meant end puts = ((end ≡ meant) × (puts ≡ whole_put line ∷ [])) ⊎ IsTail (line ∷ []) end puts

-- Puts that led to the sink as it was before lead on, by more of which this holds, to the sink as it is after.
abbrev pub PutsMore : {S : Type 0} → (S → List Put → S → Type 0) → S → S → (List Put → Type 0) → Type 0
PutsMore leads old new holds = (start : _) (puts : List Put) → leads start puts old → (more : List Put) × leads start (puts ++ more) new × holds more

-- the puts of an end because memory ran out
abbrev pub EndsOutOfMemory : Status → List Put → Type 0
EndsOutOfMemory end puts = (answer : Result (Unit {0}) SinkError) × (end ≡ status_after answer) × (puts ≡ memory_put answer ∷ [])

-- the puts of an end with a last line, or because memory ran out
abbrev pub IsEnd : Text → Status → Status → List Put → Type 0
IsEnd line meant end puts = IsLast line meant end puts ⊎ EndsOutOfMemory end puts
