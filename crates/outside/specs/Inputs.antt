-- What a named file of a folder gives: its bytes, or a refusal of the file as a whole.
use Rattle.std.specs.Prelude.{◌≡◌, ℕ, List, length, nat_le, cond, None, Some, Option, Ok, Err, Result}
use Rattle.outside.specs.{Files.FileSet, Files.bytes_under, Names.folder_name, declared.codes.Code.Code, declared.codes.Code.TheVariants.MissingFile}
use Rattle.outside.specs.{declared.codes.Code.TheVariants.TooLong, declared.inputs.Refusal.Refusal, declared.inputs.InputFault.InputFault}
use Rattle.outside.specs.{declared.inputs.InputFault.TheVariants.Refused, declared.inputs.InputFault.TheVariants.ReadFault}
use Rattle.outside.specs.{declared.inputs.InputFault.TheVariants.Memory}

-- a refusal of a file as a whole, which has line 0
abbrev pub file_refusal : Code → List ℕ → Refusal
file_refusal code name = record { code = code; file = name; line = 0; at = None }

-- a file's bytes, where it is there and has at most so many
abbrev pub bytes_or_refusal : ℕ → List ℕ → Option (List ℕ) → Result (List ℕ) Refusal
bytes_or_refusal limit name None = Err (file_refusal MissingFile name)
bytes_or_refusal limit name (Some bytes) = cond (nat_le (length bytes) limit) (Ok bytes) (Err (file_refusal TooLong name))

-- the bytes of a named file, or its refusal
abbrev pub file_at : FileSet → List ℕ → Result (List ℕ) Refusal
file_at files name = bytes_or_refusal files.limit name (bytes_under (folder_name name) files.files)

-- a reading returned what the files define: a value, or its refusal; a read fault and lack of
-- memory say nothing of the files
abbrev pub IsReading : {V T : Type 0} → (T → V) → Result V Refusal → Result T InputFault → Type 0
IsReading view defined (Ok v) = defined ≡ Ok (view v)
IsReading view defined (Err (Refused refusal)) = defined ≡ Err refusal
IsReading view defined (Err ReadFault) = Unit {0}
IsReading view defined (Err Memory) = Unit {0}
