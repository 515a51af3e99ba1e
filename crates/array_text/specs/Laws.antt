-- Statements of laws: what is written is read as itself.
use Rattle.std.specs.Prelude.{◌≡◌, ℕ, ◌*◌, ◌≤◌, ℤ, List, [], ◌∷◌, All, length, Ok, Result}
use Rattle.decimal_input.specs.{declared.dec.Dec.Dec, IsDec}
use Rattle.outside.specs.{FileSet, words, declared.inputs.Refusal.Refusal}
use Rattle.record_lines.specs.{left_from, GivesOnly, Left}
use Rattle.array_reader.specs.{number, integer, real, whole, free_list, reals, real_layer, integer_layer, layers}
use Rattle.array_text.specs.Lines.{IsShort, number_word, integer_word, Line, IsLine, line_text, text, left_of_lines, Reads, row_line, real_array, integer_array}

-- a number in canonical form, and an integer of at most 18 digits
pub record WordsReadAsWritten : Type 0 where
  pub numbers : (d : Dec) → IsDec d → number (number_word d) ≡ Ok d
  pub integers : (z : ℤ) → IsShort z → integer (integer_word z) ≡ Ok z

-- a line as its words, and a text, from any number of its first line on, as its lines
pub record LinesReadAsWritten : Type 0 where
  pub words : (line : Line) → IsLine line → words (line_text line) ≡ line
  pub texts : (n : ℕ) (lines : List Line) → All IsLine lines → left_from n (text lines) ≡ left_of_lines n lines

-- at least one value, all on one line
pub record FreeListsReadAsWritten : Type 0 where
  pub numbers : (file : List ℕ) (xs : List Dec) → 1 ≤ length xs → All IsDec xs →
      Reads (free_list number file (length xs)) (row_line number_word xs ∷ []) xs
  pub integers : (file : List ℕ) (xs : List ℤ) → 1 ≤ length xs → All IsShort xs →
      Reads (free_list integer file (length xs)) (row_line integer_word xs ∷ []) xs

-- a list of values, which is one row; a layer of numbers, and one of integers
pub record ArraysReadAsWritten : Type 0 where
  pub lists : (files : FileSet) (file : List ℕ) (xs : List Dec) → 1 ≤ length xs → All IsDec xs →
      Reads (reals files file (length xs)) (real_array 1 (length xs) xs) xs
  pub layers : (files : FileSet) (file : List ℕ) (rows cols : ℕ) (xs : List Dec) → 1 ≤ cols → length xs ≡ rows * cols → All IsDec xs →
      Reads (real_layer files file rows cols) (real_array rows cols xs) xs
  pub integer_layers : (files : FileSet) (file : List ℕ) (rows cols : ℕ) (xs : List ℤ) → 1 ≤ cols → length xs ≡ rows * cols → All IsShort xs →
      Reads (integer_layer files file rows cols) (integer_array rows cols xs) xs

-- wherever the reading begins, each value that it gives has this form
abbrev pub GivesEach : {X : Type 0} → (Left → Result (X × Left) Refusal) → (X → Type 0) → Type 0
GivesEach read P = (left : Left) → GivesOnly (λ x. P x.0) (read left)

-- this many values of this form
abbrev pub Are : {X : Type 0} → ℕ → (X → Type 0) → List X → Type 0
Are count P xs = (length xs ≡ count) × All P xs

-- a number in canonical form, and an integer of at most 18 digits
pub record WordsHaveForm : Type 0 where
  pub numbers : (w : List ℕ) → GivesOnly IsDec (number w)
  pub integers : (w : List ℕ) → GivesOnly IsShort (integer w)

pub record ListsHaveForm : Type 0 where
  pub numbers : (file : List ℕ) (count : ℕ) → GivesEach (free_list number file count) (Are count IsDec)
  pub integers : (file : List ℕ) (count : ℕ) → GivesEach (free_list integer file count) (Are count IsShort)

-- a list, a layer of numbers, and one of integers; and the layers of a grid, of numbers and of integers
pub record ArraysHaveForm : Type 0 where
  pub lists : (files : FileSet) (file : List ℕ) (count : ℕ) → GivesEach (reals files file count) (Are count IsDec)
  pub real_layers : (files : FileSet) (file : List ℕ) (rows cols : ℕ) → GivesEach (real_layer files file rows cols) (Are (rows * cols) IsDec)
  pub integer_layers : (files : FileSet) (file : List ℕ) (rows cols : ℕ) → GivesEach (integer_layer files file rows cols) (λ xs. length xs ≡ rows * cols)
  pub real_grids : (files : FileSet) (file : List ℕ) (count rows cols : ℕ) →
      GivesEach (layers real files file count rows cols) (Are (count * (rows * cols)) IsDec)
  pub integer_grids : (files : FileSet) (file : List ℕ) (count rows cols : ℕ) →
      GivesEach (layers whole files file count rows cols) (λ xs. length xs ≡ count * (rows * cols))
