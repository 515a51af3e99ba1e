-- The refusals of inputs: the number and the word that each is printed with.
use Rattle.std.specs.Prelude.{ℕ, List, codes, ◌≡◌, None}
use Rattle.outside.specs.declared.codes.Code.{Code}
use Rattle.outside.specs.declared.codes.Code.TheVariants.{MissingFile, TooLong, BadName, BadNameLine, DuplicatePackage, UnsupportedPackage, MissingPackage}
use Rattle.outside.specs.declared.codes.Code.TheVariants.{EndOfFile, BadNumber, TooManyDigits, OutOfProfile, BadGrid, BadControl, BadThickness, BadProperty}
use Rattle.outside.specs.declared.codes.Code.TheVariants.{CellOutside, TooManyEntries, NothingToReuse, HeadTooLarge, BadListing, NotAlike}
use Rattle.outside.specs.declared.inputs.Refusal.{Refusal}
use Rattle.outside.specs.declared.inputs.TextFault.{TextFault}
use Rattle.outside.specs.declared.inputs.InputFault.{InputFault}
use Rattle.outside.specs.declared.inputs.InputFault.TheVariants.{Refused, Memory}
use Rattle.outside.specs.declared.inputs.TextFault.TheVariants as texts

pub record CodeRow : Type 0 where
  pub number : ℕ
  pub word : List ℕ

abbrev pub row : ℕ → List ℕ → CodeRow
row number word = record { number = number; word = word }

abbrev pub code_row : Code → CodeRow
code_row MissingFile = row 1 (codes "MissingFile")
code_row TooLong = row 2 (codes "TooLong")
code_row BadName = row 3 (codes "BadName")
code_row BadNameLine = row 4 (codes "BadNameLine")
code_row DuplicatePackage = row 5 (codes "DuplicatePackage")
code_row UnsupportedPackage = row 6 (codes "UnsupportedPackage")
code_row MissingPackage = row 7 (codes "MissingPackage")
code_row EndOfFile = row 8 (codes "EndOfFile")
code_row BadNumber = row 9 (codes "BadNumber")
code_row TooManyDigits = row 10 (codes "TooManyDigits")
code_row OutOfProfile = row 11 (codes "OutOfProfile")
code_row BadGrid = row 12 (codes "BadGrid")
code_row BadControl = row 13 (codes "BadControl")
code_row BadThickness = row 14 (codes "BadThickness")
code_row BadProperty = row 15 (codes "BadProperty")
code_row CellOutside = row 16 (codes "CellOutside")
code_row TooManyEntries = row 17 (codes "TooManyEntries")
code_row NothingToReuse = row 18 (codes "NothingToReuse")
code_row HeadTooLarge = row 19 (codes "HeadTooLarge")
code_row BadListing = row 20 (codes "BadListing")
code_row NotAlike = row 28 (codes "NotAlike")

-- Refusals of lines, and faults of texts among the faults of inputs.
-- the refusal of a line of a file
abbrev pub refusal : Code → List ℕ → ℕ → Refusal
refusal code file line = record { code = code; file = file; line = line; at = None }

-- a refusal of a line, or lack of memory for the file's name
abbrev pub IsRefusal : Code → List ℕ → ℕ → TextFault → Type 0
IsRefusal code file line (texts.Refused r) = r ≡ refusal code file line
IsRefusal code file line texts.Memory = Unit {0}

-- a fault of a text as a fault of an input
abbrev pub input_fault : TextFault → InputFault
input_fault (texts.Refused r) = Refused r
input_fault texts.Memory = Memory
