-- Puts to a sink, and what they change in it.
use Rattle.std.specs.Prelude.{◌≡◌, ℕ, List, [], ◌∷◌, take, Ok, Err, Result, Option, ◌<◌, ◌≤◌, ◌+◌, ◌-◌, ◌^◌, ◌⊎◌, min}
use Rattle.std.specs.Io.KnownBytes.{Appends, Keeps}
use Rattle.outside.specs.{declared.traits.SinkError.SinkError, declared.traits.SinkError.TheVariants.Write, declared.traits.SinkError.TheVariants.Memory}
use Rattle.outside.specs.{declared.traits.FolderError.FolderError, declared.inputs.InputFault.InputFault}
use Rattle.outside.specs.declared.traits.FolderError.TheVariants as folder
use Rattle.outside.specs.declared.traits.SinkError.TheVariants as sink
use Rattle.outside.specs.declared.inputs.InputFault.TheVariants as input

-- Counts of faults, which never fall, and stay at the greatest number of their type.
-- the count rose, or is at its end
pub record Rose (old new : ℕ) : Type 0 where
  pub kept : old ≤ new
  pub more : (old < new) ⊎ (new ≡ 2 ^ 64 - 1)

-- one more, up to the end
abbrev pub next_count : ℕ → ℕ
next_count n = min (n + 1) (2 ^ 64 - 1)

-- a failed read raises the folder's count, and no other result changes it
abbrev pub ReadCounts : {T : Type 0} → ℕ → ℕ → Result T FolderError → Type 0
ReadCounts old new (Ok found) = new ≡ old
ReadCounts old new (Err folder.Read) = Rose old new
ReadCounts old new (Err folder.Memory) = new ≡ old

-- a failed write raises the sink's count, and no other result changes it
abbrev pub PutCounts : {T : Type 0} → ℕ → ℕ → Result T SinkError → Type 0
PutCounts old new (Ok done) = new ≡ old
PutCounts old new (Err sink.Write) = Rose old new
PutCounts old new (Err sink.Memory) = new ≡ old

-- a reading that met a fault raised the folder's count, and every other one left it unchanged
abbrev pub InputCounts : {T : Type 0} → ℕ → ℕ → Result T InputFault → Type 0
InputCounts old new (Ok value) = new ≡ old
InputCounts old new (Err (input.Refused refusal)) = new ≡ old
InputCounts old new (Err input.ReadFault) = Rose old new
InputCounts old new (Err input.Memory) = new ≡ old

-- a put: the piece, and the result
pub record Put : Type 0 where
  pub piece : List ℕ
  pub answer : Result (Unit {0}) SinkError

-- what a clause sees of a sink: the bytes written, if it shows them, and its count of faults
pub record Seen : Type 0 where
  pub written : Option (List ℕ)
  pub faults : ℕ

-- Ok appends the piece whole, a failed write a prefix of it, lack of memory nothing
abbrev pub PutWrites : Option (List ℕ) → Option (List ℕ) → List ℕ → Result (Unit {0}) SinkError → Type 0
PutWrites old new piece (Ok done) = Appends old new piece
PutWrites old new piece (Err Write) = (kept : ℕ) × Appends old new (take kept piece)
PutWrites old new piece (Err Memory) = Keeps old new

pub record PutMakes (old : Seen) (put : Put) (new : Seen) : Type 0 where
  pub writes : PutWrites old.written new.written put.piece put.answer
  pub counts : PutCounts old.faults new.faults put.answer

-- one put after another
abbrev pub PutsMake : Seen → List Put → Seen → Type 0
PutsMake old [] new = old ≡ new
PutsMake old (put ∷ puts) new = (mid : Seen) × PutMakes old put mid × PutsMake mid puts new

-- a piece that was taken whole
abbrev pub whole_put : List ℕ → Put
whole_put piece = record { piece = piece; answer = Ok tt }

-- a piece that was not taken whole, with its fault
abbrev pub failed_put : List ℕ → SinkError → Put
failed_put piece error = record { piece = piece; answer = Err error }
