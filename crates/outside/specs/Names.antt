-- Names of files.
use Rattle.std.specs.Prelude.{ℕ, ◌≤◌, ◌==◌, Bool, ◌&&◌, nat_le, List, map, length, if◌then◌else◌, All, ◌||◌, [], ◌∷◌, filter, nat_lt}
use Rattle.std.specs.List.{list_all, slice_split, onto_first}
use Rattle.outside.specs.declared.traits.Found.{Found}
use Rattle.outside.specs.declared.traits.Found.TheVariants.{Bytes, Missing, TooLong}

-- a byte of printable ASCII except the blank
abbrev pub IsNameByte : ℕ → Type 0
IsNameByte b = (33 ≤ b) × (b ≤ 126)

-- a good file name: 1 to 255 bytes of printable ASCII without a blank
abbrev pub IsGoodName : List ℕ → Type 0
IsGoodName name = (1 ≤ length name) × (length name ≤ 255) × All IsNameByte name

-- the same as a test
unfoldable pub is_good_name : List ℕ → Bool
is_good_name name = (nat_le 1 (length name) && nat_le (length name) 255) && list_all (λ b. nat_le 33 b && nat_le b 126) name

-- the name by which a folder is asked for a file: each backslash becomes a slash
abbrev pub folder_name : List ℕ → List ℕ
folder_name = map (λ b. if b == 92 then 47 else b)

-- The lines of a text, and the words of a line.
-- blank, tab, comma and carriage return
abbrev pub is_separator : ℕ → Bool
is_separator c = ((c == 32) || (c == 9)) || ((c == 44) || (c == 13))

-- the words of a line: its nonempty pieces between separators
unfoldable pub words : List ℕ → List (List ℕ)
words line = filter (λ w. nat_lt 0 (length w)) (slice_split is_separator line)

-- the lines of a text: it is cut at line feeds, and what follows the last one is a line if it has a byte
unfoldable pub lines : List ℕ → List (List ℕ)
lines [] = []
lines (c ∷ cs) = if c == 10 then [] ∷ lines cs else onto_first c (lines cs)

-- Words that a folder may be asked for, as the names of files. `may` says by which names.
-- each of these words is the name of a file that may be asked for
abbrev pub WordsMay : (List ℕ → Type 0) → List (List ℕ) → Type 0
WordsMay may ws = All (λ w. may (folder_name w)) ws

-- each word of a text is
pub record TextMay (may : List ℕ → Type 0) (text : List ℕ) : Type 0 where
  pub each : All (λ line. WordsMay may (words line)) (lines text)

-- each word of a file that was found is the name of a file that may be asked for
abbrev pub FoundMay : (List ℕ → Type 0) → Found → Type 0
FoundMay may (Bytes v) = All (λ line. All (λ w. may (folder_name w)) (words line)) (lines v.items)
FoundMay may Missing = Unit {0}
FoundMay may TooLong = Unit {0}
