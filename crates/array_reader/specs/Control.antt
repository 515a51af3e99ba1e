-- The control record that precedes an array.
use Rattle.std.specs.Prelude.{ℕ, Bool, true, List, Result, Ok, Err, if◌then◌else◌, codes, [], ◌∷◌}
use Rattle.decimal_input.specs.declared.dec.NumFault.{NumFault}
use Rattle.outside.specs.{declared.codes.Code.TheVariants.BadControl, declared.codes.Code.TheVariants.OutOfProfile, declared.codes.Code.TheVariants.BadNumber}
use Rattle.outside.specs.{declared.codes.Code.TheVariants.TooManyDigits, declared.inputs.Refusal.Refusal, refusal, folder_name, declared.codes.Code.Code}
use Rattle.record_lines.specs.{word_at, name_at, is_word, ◌>>=◌}
use Rattle.array_reader.specs.declared.keyword.Keyword.{Keyword}
use Rattle.array_reader.specs.declared.keyword.Keyword.TheVariants.{Constant, Internal, OpenClose, External, Other}
use Rattle.decimal_input.specs.declared.dec.NumFault.TheVariants as faults

-- Numbers in lines.
-- the code of a word that is no number
abbrev pub number_code : NumFault → Code
number_code faults.BadNumber = BadNumber
number_code faults.TooManyDigits = TooManyDigits

-- a number, or its refusal on this line
abbrev pub at_line : {X : Type 0} → List ℕ → ℕ → Result X NumFault → Result X Refusal
at_line file line (Ok x) = Ok x
at_line file line (Err fault) = Err (refusal (number_code fault) file line)

-- the next word of a line item, read as a number
unfoldable pub number_at : {X : Type 0} → (List ℕ → Result X NumFault) → List ℕ → ℕ → List (List ℕ) → Result (X × List (List ℕ)) Refusal
number_at read file line [] = Err (refusal BadNumber file line)
number_at read file line (w ∷ ws) = do
  x ← at_line file line (read w)
  Ok (x, ws)

-- the first word of a control record, in any letter case
unfoldable pub keyword : List ℕ → Keyword
keyword word =
    if is_word (codes "CONSTANT") word then Constant else if is_word (codes "INTERNAL") word then Internal
    else if is_word (codes "OPEN/CLOSE") word then OpenClose else if is_word (codes "EXTERNAL") word then External
    else Other

-- the format (FREE), in any letter case
unfoldable pub format_at : List ℕ → ℕ → List (List ℕ) → Result (Bool × List (List ℕ)) Refusal
format_at file line words = do
  word ← word_at (refusal BadControl file line) words
  if is_word (codes "(FREE)") word.0 then Ok (true, word.1) else Err (refusal OutOfProfile file line)

-- one value for all; values on the next lines, or in a file of this name, with a multiplier
pub data Control (X : Type 0) : Type 0 where
  constant : X → Control X
  internal : X → Control X
  named : List ℕ → X → Control X

-- what follows the keyword: a value, or a multiplier and the format, with the name of a file before them
abbrev pub of_keyword : {X : Type 0} → Keyword → (List ℕ → Result X NumFault) → List ℕ → ℕ → List (List ℕ) → Result (Control X) Refusal
of_keyword Constant read file line words = do
  value ← number_at read file line words
  Ok (constant value.0)
of_keyword Internal read file line words = do
  by ← number_at read file line words
  format ← format_at file line by.1
  Ok (internal by.0)
of_keyword OpenClose read file line words = do
  word ← word_at (refusal BadControl file line) words
  name ← name_at file line word.0
  by ← number_at read file line word.1
  format ← format_at file line by.1
  Ok (named name by.0)
of_keyword External read file line words = Err (refusal OutOfProfile file line)
of_keyword Other read file line words = Err (refusal BadControl file line)

-- the control record that these words make
unfoldable pub control_at : {X : Type 0} → (List ℕ → Result X NumFault) → List ℕ → ℕ → List (List ℕ) → Result (Control X) Refusal
control_at read file line words = do
  word ← word_at (refusal BadControl file line) words
  of_keyword (keyword word.0) read file line word.1

-- The file that a control record names.
-- where it names one, it may be asked for
abbrev pub ControlMay : {X : Type 0} → (List ℕ → Type 0) → Control X → Type 0
ControlMay may (constant value) = Unit {0}
ControlMay may (internal by) = Unit {0}
ControlMay may (named name by) = may (folder_name name)
