-- How the text of a deck is cut into its files, and compared with another text.
use Rattle.std.specs.Prelude.{ℕ, ◌+◌, ◌==◌, Bool, false, ◌&&◌, if◌then◌else◌, List, [], ◌∷◌, ◌++◌, codes, drop, map, min, take, Result, Ok, Err}
use Rattle.std.specs.Str.{bytes_eq}
use Rattle.outside.specs.{File, FileSet, is_good_name, with_limit}
use Rattle.record_lines.specs.{next_number, ◌>>=◌}
use Rattle.model_types.specs.{most_bytes, declared.limits.Limits.Limits}
use Rattle.listing_io.specs.{Line, ended_line}

-- a line FILE, with a good name of a file after the word
abbrev pub is_file_line : Line → Bool
is_file_line line = bytes_eq (take 5 line) (codes "FILE ") && is_good_name (drop 5 line)

-- a file in a text: its name, its bytes, and the number of its line FILE
pub record TextFile : Type 0 where
  pub name : List ℕ
  pub bytes : List ℕ
  pub line : ℕ

-- a line FILE, the number of which is n, with the bytes of the lines after it that belong to its file, and the files after these
abbrev pub opened : ℕ → Line → List ℕ × List TextFile → List TextFile
opened n line p = record { name = drop 5 line; bytes = p.0; line = n } ∷ p.1

-- any line with them
abbrev pub joined : ℕ → Line → List ℕ × List TextFile → List ℕ × List TextFile
joined n line p = if is_file_line line then ([], opened n line p) else (ended_line line ++ p.0, p.1)

-- lines from line n on, up to the first line END: the bytes of those before the first line FILE, and the files; or the number of the line
-- after the last one, where the line END lacks
unfoldable pub pieces : ℕ → List Line → Result (List ℕ × List TextFile) ℕ
pieces n [] = Err n
pieces n (line ∷ lines) = if bytes_eq line (codes "END") then Ok ([], []) else (pieces (next_number n) lines >>= λ p. Ok (joined n line p))

-- the files of lines from line n on, the first of which must be a line FILE
abbrev pub cut_at : ℕ → List Line → Result (List TextFile) ℕ
cut_at n [] = Err n
cut_at n (line ∷ lines) = if is_file_line line then (pieces (next_number n) lines >>= λ p. Ok (opened n line p)) else Err n

-- a file of a text as a file of a folder; and the folder of these files
abbrev pub file_of : TextFile → File
file_of f = record { name = f.name; bytes = f.bytes }

abbrev pub files_of : Limits → List TextFile → FileSet
files_of limits files = with_limit (most_bytes limits) (map file_of files)

-- the number of a line k lines later, which stops at the greatest number of 32 bits
abbrev pub later : ℕ → ℕ → ℕ
later n k = min (n + k) 4294967295

-- whether a text begins with a byte; and the number of the line after a byte of line n
abbrev pub first_is : ℕ → List ℕ → Bool
first_is d [] = false
first_is d (b ∷ text) = b == d

abbrev pub after_byte : ℕ → ℕ → ℕ
after_byte n d = if d == 10 then next_number n else n

-- what follows in a text, from line n on, after one that is due at its beginning, and the number of its first line; or the number of the
-- first line that differs
unfoldable pub after_due : ℕ → List ℕ → List ℕ → Result (List ℕ × ℕ) ℕ
after_due n text [] = Ok (text, n)
after_due n text (d ∷ due) = if first_is d text then after_due (after_byte n d) (drop 1 text) due else Err n
