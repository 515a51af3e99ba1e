-- Lines of words as a text, and what is left of the text when lines of it have been read.
use Rattle.std.specs.Prelude.{◌≡◌, ℕ, ◌≤◌, List, [], ◌∷◌, ◌++◌, All, length, Result, Ok, ◌<◌, ◌^◌, ℤ, Bool, true, false, codes, decimal, unsigned_abs, zero}
use Rattle.std.specs.Prelude.{suc, take, drop, map}
use Rattle.std.specs.{List.join_with_byte, Fmt.signed_decimal}
use Rattle.outside.specs.declared.inputs.Refusal.{Refusal}
use Rattle.record_lines.specs.{Numbered, Left, next_number}
use Rattle.decimal_input.specs.declared.dec.Dec.{Dec}

-- Numbers and names as words of a line.
-- a minus sign where there is one
abbrev pub sign : Bool → List ℕ
sign true = codes "-"
sign false = []

-- a number: its sign, its digits, and its exponent after an E, as -25E-1
unfoldable pub number_word : Dec → List ℕ
number_word d = sign d.neg ++ (decimal d.digits ++ (codes "E" ++ signed_decimal d.exp))

-- an integer, as -25
unfoldable pub integer_word : ℤ → List ℕ
integer_word z = signed_decimal z

-- an integer of at most 18 digits
pub record IsShort (z : ℤ) : Type 0 where
  pub few : unsigned_abs z < 10 ^ 18

-- a byte of a word: printable ASCII except the blank, the comma and the star
pub record IsWordByte (b : ℕ) : Type 0 where
  pub printable : (33 ≤ b) × (b ≤ 126)
  pub no_comma : b ≡ 44 → ⊥
  pub no_star : b ≡ 42 → ⊥

-- a word: one such byte or more
pub record IsWord (w : List ℕ) : Type 0 where
  pub some : 1 ≤ length w
  pub bytes : All IsWordByte w

-- a line, as its words
abbrev pub Line : Type 0
Line = List (List ℕ)

-- one word or more
pub record IsLine (line : Line) : Type 0 where
  pub some : 1 ≤ length line
  pub words : All IsWord line

-- the words with a blank between each two
unfoldable pub line_text : Line → List ℕ
line_text line = join_with_byte 32 line

-- each line with a line feed after it
unfoldable pub text : List Line → List ℕ
text [] = []
text (line ∷ others) = line_text line ++ (10 ∷ text others)

-- lines with their numbers, of which n is the first
unfoldable pub numbered_lines : ℕ → List Line → List Numbered
numbered_lines n [] = []
numbered_lines n (line ∷ others) = record { number = n; bytes = line_text line } ∷ numbered_lines (next_number n) others

-- the number of the line after them
unfoldable pub number_after : ℕ → List Line → ℕ
number_after n [] = n
number_after n (line ∷ others) = number_after (next_number n) others

-- what is left of a text where these lines are still to be read, and n is the number of the first
unfoldable pub left_of_lines : ℕ → List Line → Left
left_of_lines n lines = record { lines = numbered_lines n lines; end = number_after n lines }

-- A reading takes these lines, wherever they stand, and gives something with what it leaves: what follows them. Each of them is a line.
pub record Takes {Z : Type 0} (read : Left → Result Z Refusal) (lines : List Line) (out : Left → Z) : Type 0 where
  pub are : All IsLine lines
  pub reads : (n : ℕ) (rest : List Line) → read (left_of_lines n (lines ++ rest)) ≡ Ok (out (left_of_lines (number_after n lines) rest))

-- it gives x
abbrev pub Reads : {X : Type 0} → (Left → Result (X × Left) Refusal) → List Line → X → Type 0
Reads read lines x = Takes read lines (λ left. (x, left))

-- Arrays as lines (TM 6-A16, U1DREL, U2DREL and U2DINT): a control record, and each row of values on a line of its own.
-- the values follow in free format, times 1, and aren't printed: INTERNAL CNSTNT FMTIN IPRN
abbrev pub control_record : Line
control_record = codes "INTERNAL" ∷ codes "1" ∷ codes "(FREE)" ∷ codes "-1" ∷ []

-- values row by row
abbrev pub in_rows : {X : Type 0} → ℕ → ℕ → List X → List (List X)
in_rows zero cols xs = []
in_rows (suc rows) cols xs = take cols xs ∷ in_rows rows cols (drop cols xs)

-- a line of values
unfoldable pub row_line : {X : Type 0} → (X → List ℕ) → List X → Line
row_line word xs = map word xs

unfoldable pub row_lines : {X : Type 0} → (X → List ℕ) → ℕ → ℕ → List X → List Line
row_lines word rows cols xs = map (row_line word) (in_rows rows cols xs)

-- an array of numbers, and one of integers
abbrev pub array_lines : {X : Type 0} → (X → List ℕ) → ℕ → ℕ → List X → List Line
array_lines word rows cols xs = control_record ∷ row_lines word rows cols xs

unfoldable pub real_array : ℕ → ℕ → List Dec → List Line
real_array rows cols xs = array_lines number_word rows cols xs

unfoldable pub integer_array : ℕ → ℕ → List ℤ → List Line
integer_array rows cols xs = array_lines integer_word rows cols xs
