-- What reading a text gives: a value and what is left to be read, or the first refusal; and what a
-- call may return besides.
use Rattle.std.specs.Prelude.{◌≡◌, ℕ, zero, suc, ◌+◌, [], ◌∷◌, ◌++◌, Result, Ok, Err, List, Bool, false, if◌then◌else◌}
use Rattle.outside.specs.{declared.inputs.Refusal.Refusal, declared.inputs.TextFault.TextFault, declared.inputs.InputFault.InputFault}
use Rattle.outside.specs.{declared.inputs.InputFault.TheVariants.Refused, declared.inputs.InputFault.TheVariants.ReadFault}
use Rattle.outside.specs.{declared.inputs.InputFault.TheVariants.Memory, declared.codes.Code.TheVariants.EndOfFile, declared.codes.Code.TheVariants.BadName}
use Rattle.outside.specs.{is_good_name, refusal}
use Rattle.std.specs.Str.{str_eq_ignore_ascii_case}
use Rattle.record_lines.specs.Spread.{Numbered, Left}
use Rattle.outside.specs.declared.inputs.TextFault.TheVariants as texts

-- one reading after another; the first refusal ends them
infixl 10 ◌>>=◌
abbrev pub ◌>>=◌ : {A B E : Type 0} → Result A E → (A → Result B E) → Result B E
(Ok x) >>= f = f x
(Err e) >>= f = Err e

-- whatever the reading gives has this form
pub record GivesOnly {A E : Type 0} (P : A → Type 0) (reading : Result A E) : Type 0 where
  pub gives : (x : A) → reading ≡ Ok x → P x

-- a refusal is the one that reading has; running out of memory and a read fault may come at any place
abbrev pub Stops : {Y : Type 0} → InputFault → Result Y Refusal → Type 0
Stops (Refused r) read = read ≡ Err r
Stops ReadFault read = Unit {0}
Stops Memory read = Unit {0}

-- What a call returned, seen by view, and what it left to be read: what reading gives, unless a fault
-- or lack of memory stopped it.
abbrev pub Gives : {X Y S : Type 0} → (X → Y) → Result X InputFault → S → Result (Y × S) Refusal → Type 0
Gives view (Ok x) after read = read ≡ Ok (view x, after)
Gives view (Err fault) after read = Stops fault read

-- the same where nothing is left to be read
abbrev pub Has : {X Y : Type 0} → (X → Y) → Result X InputFault → Result Y Refusal → Type 0
Has view (Ok x) read = read ≡ Ok (view x)
Has view (Err fault) read = Stops fault read

-- The same for calls that take no folder.
abbrev pub StopsText : {Y : Type 0} → TextFault → Result Y Refusal → Type 0
StopsText (texts.Refused r) read = read ≡ Err r
StopsText texts.Memory read = Unit {0}

abbrev pub GivesText : {X Y S : Type 0} → (X → Y) → Result X TextFault → S → Result (Y × S) Refusal → Type 0
GivesText view (Ok x) after read = read ≡ Ok (view x, after)
GivesText view (Err fault) after read = StopsText fault read

abbrev pub HasText : {X Y : Type 0} → (X → Y) → Result X TextFault → Result Y Refusal → Type 0
HasText view (Ok x) read = read ≡ Ok (view x)
HasText view (Err fault) read = StopsText fault read

-- the same reading, this many times, each from where the one before it ended
unfoldable pub repeated_reading : {X S E : Type 0} → ℕ → (S → Result (X × S) E) → S → Result (List X × S) E
repeated_reading zero read s = Ok ([], s)
repeated_reading (suc n) read s = do
  x ← read s
  more ← repeated_reading n read x.1
  Ok (x.0 ∷ more.0, more.1)

-- a reading for each element of a list, each from where the one before it ended
unfoldable pub for_each : {A X S E : Type 0} → (A → S → Result (X × S) E) → List A → S → Result (List X × S) E
for_each read [] s = Ok ([], s)
for_each read (a ∷ others) s = do
  x ← read a s
  more ← for_each read others x.1
  Ok (x.0 ∷ more.0, more.1)

-- the lists of this many readings of the same thing, appended
unfoldable pub appended_readings : {X S E : Type 0} → ℕ → (S → Result (List X × S) E) → S → Result (List X × S) E
appended_readings zero read s = Ok ([], s)
appended_readings (suc n) read s = do
  xs ← read s
  more ← appended_readings n read xs.1
  Ok (xs.0 ++ more.0, more.1)

-- the same step for each of this many numbers from this one on, each from where the one before it ended
unfoldable pub each_number : {S E : Type 0} → (ℕ → S → Result S E) → ℕ → ℕ → S → Result S E
each_number step i zero s = Ok s
each_number step i (suc n) s = step i s >>= each_number step (i + 1) n

-- Line items: a line is read word by word, from left to right.
-- the next word, or this refusal where there is none
unfoldable pub word_at : Refusal → List (List ℕ) → Result (List ℕ × List (List ℕ)) Refusal
word_at missing [] = Err missing
word_at missing (w ∷ ws) = Ok (w, ws)

-- the next line that has a word
abbrev pub line_from : List ℕ → List Numbered → ℕ → Result (Numbered × Left) Refusal
line_from file [] end = Err (refusal EndOfFile file end)
line_from file (line ∷ others) end = Ok (line, record { lines = others; end = end })

unfoldable pub line_at : List ℕ → Left → Result (Numbered × Left) Refusal
line_at file left = line_from file left.lines left.end

-- whether a word is this keyword, in any letter case
abbrev pub is_word : List ℕ → List ℕ → Bool
is_word keyword word = str_eq_ignore_ascii_case word keyword

-- whether the first word of a line is this keyword
abbrev pub begins_with : List ℕ → List (List ℕ) → Bool
begins_with keyword [] = false
begins_with keyword (word ∷ words) = is_word keyword word

-- a word as a file's name
unfoldable pub name_at : List ℕ → ℕ → List ℕ → Result (List ℕ) Refusal
name_at file line name = if is_good_name name then Ok name else Err (refusal BadName file line)
