-- The list of a batch: the first word of a line is the name of a name file.
use Rattle.std.specs.Prelude.{ℕ, List, [], ◌∷◌, ◌++◌, length, map, Option, None, Some, Result, Ok, Err, nat_lt, if◌then◌else◌}
use Rattle.std.specs.List.{filter_map, enumerate_from}
use Rattle.outside.specs.{is_good_name, words, refusal, declared.codes.Code.TheVariants.BadName, declared.codes.Code.TheVariants.TooManyEntries}
use Rattle.outside.specs.{declared.inputs.Refusal.Refusal}
use Rattle.record_lines.specs.{Numbered, is_comment, left_from}

-- A word where a name is due, and the number of its line.
pub record Entry : Type 0 where
  pub line : ℕ
  pub word : List ℕ

abbrev pub entry_at : ℕ → List ℕ → Entry
entry_at line word = record { line = line; word = word }

-- the entry of a line with these words: the first of them
abbrev pub first_entry : ℕ → List (List ℕ) → Option Entry
first_entry line [] = None
first_entry line (word ∷ words) = Some (entry_at line word)

-- the entry of a line; a line that begins with '#' and a line without a word have none
unfoldable pub entry_of : Numbered → Option Entry
entry_of line = if is_comment line.bytes then None else first_entry line.number (words line.bytes)

-- the entries of these lines, in order
abbrev pub entries : List Numbered → List Entry
entries lines = filter_map entry_of lines

-- The refusal of an entry that comes after this many others, if it has one: BadName for a word that is no file's name,
-- and TooManyEntries for a name after 1,000 others. (The limit is the project's own.)
unfoldable pub refusal_of : List ℕ → ℕ × Entry → Option Refusal
refusal_of file entry =
    if is_good_name entry.1.word then if nat_lt entry.0 1000 then None else Some (refusal TooManyEntries file entry.1.line)
    else Some (refusal BadName file entry.1.line)

-- the refusals of entries that come after this many others, in order
abbrev pub refusals : List ℕ → ℕ → List Entry → List Refusal
refusals file count entries = filter_map (refusal_of file) (enumerate_from count entries)

-- these names, or else the first of these refusals
abbrev pub unless_refused : List Refusal → List (List ℕ) → Result (List (List ℕ)) Refusal
unless_refused [] names = Ok names
unless_refused (first ∷ others) names = Err first

abbrev pub words_of : List Entry → List (List ℕ)
words_of entries = map (λ entry. entry.word) entries

-- the names of a list: the words of its entries, in order; or the first refusal of an entry
unfoldable pub names_in : List ℕ → List ℕ → Result (List (List ℕ)) Refusal
names_in file bytes = let listed = entries (left_from 1 bytes).lines in unless_refused (refusals file 0 listed) (words_of listed)

-- what entries give that come after these names: the names, and then the words of the entries; or the first refusal
abbrev pub with_entries : List ℕ → List (List ℕ) → List Entry → Result (List (List ℕ)) Refusal
with_entries file names entries = unless_refused (refusals file (length names) entries) (names ++ words_of entries)
