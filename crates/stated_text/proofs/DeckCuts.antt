-- The text of a deck is cut into its files.
use Rattle.stated_text.proofs.Common.{◌≡◌, ◌||◌, ◌∷◌, ◌++◌, ◌∙◌, ℕ, Bool, true, false, List, [], Option, Some, None, Ok, refl, sym, ap, append_assoc, codes, map, flat_map, AllByRecursion, Line}
use Rattle.stated_text.proofs.Common.{ended_line, lines, bytes_eq, is_mark, is_file_line, next_number, pieces, cut_at, TextFile, File, FlowModel, file_of, file_line, file_text, file_texts}
use Rattle.stated_text.proofs.Common.{zoned_files, zoned_text, written, DecksAreCut, take}
use Rattle.model_text.proofs.MarkTexts.{IsOfLines, are_of_lines, line_cut}

both_false : (x y : Bool) → (x || y) ≡ false → (x ≡ false) × (y ≡ false)
both_false true y e = absurd (let bad : true ≡ false = e in cc)
both_false false y e = (refl, e)

module _ (row : Line) (h : is_mark row ≡ false) where
  no_end : bytes_eq row (codes "END") ≡ false
  no_end = (both_false (bytes_eq (take 5 row) (codes "FILE ")) (bytes_eq row (codes "END")) h).1

  no_file : is_file_line row ≡ false
  no_file = let e = (both_false (bytes_eq (take 5 row) (codes "FILE ")) (bytes_eq row (codes "END")) h).0 in rw e refl

-- the number of the line after some
lines_on : ℕ → List Line → ℕ
lines_on n [] = n
lines_on n (row ∷ rows) = lines_on (next_number n) rows

rows_cut : (n : ℕ) (rows more : List Line) (files : List TextFile) → AllByRecursion (λ row. is_mark row ≡ false) rows → pieces (lines_on n rows) more ≡ Ok ([], files) →
    pieces n (rows ++ more) ≡ Ok (flat_map ended_line rows, files)
unfolding pieces lines_on
rows_cut n [] more files h e = e
rows_cut n (row ∷ rows) more files h e = rw (no_end row h.0, rows_cut (next_number n) rows more files h.1 e, no_file row h.0) refl

-- the line FILE of a file, and its lines
module _ (f : File) (is : IsOfLines f) (rest : List ℕ) where
  file_lines : lines (file_text f ++ rest) ≡ (codes "FILE " ++ f.name) ∷ (is.rows ++ lines rest)
  unfolding file_text file_line
  file_lines =
      ap lines (append_assoc (codes "FILE " ++ (f.name ++ (10 ∷ []))) f.bytes rest ∙ ap (λ (t : List ℕ). codes "FILE " ++ t) (append_assoc f.name (10 ∷ []) (f.bytes ++ rest)))
      ∙ line_cut (codes "FILE " ++ f.name) (f.bytes ++ rest) is.feed
      ∙ ap (λ (rows : List Line). (codes "FILE " ++ f.name) ∷ rows) (is.cut rest)

  opens : is_file_line (codes "FILE " ++ f.name) ≡ true
  opens = is.good

  module _ (n : ℕ) (files : List TextFile) (h : pieces (lines_on (next_number n) is.rows) (lines rest) ≡ Ok ([], files)) where
    bytes_cut : pieces (next_number n) (is.rows ++ lines rest) ≡ Ok (f.bytes, files)
    bytes_cut = rows_cut (next_number n) is.rows (lines rest) files is.unmarked h ∙ ap (λ (t : List ℕ). Ok (t, files)) (sym is.whole)

    abbrev here : TextFile
    here = record { name = f.name; bytes = f.bytes; line = n }

    file_in : pieces n (lines (file_text f ++ rest)) ≡ Ok ([], here ∷ files)
    unfolding pieces
    file_in = rw (file_lines, bytes_cut, opens) refl

    file_first : cut_at n (lines (file_text f ++ rest)) ≡ Ok (here ∷ files)
    file_first = rw (file_lines, opens, bytes_cut) refl

-- files, up to the line END
record AreCut (n : ℕ) (fs : List File) (rest : List ℕ) : Type 0 where
  pub files : List TextFile
  pub cut : pieces n (lines (file_texts fs ++ (codes "END\n" ++ rest))) ≡ Ok ([], files)
  pub are : map file_of files ≡ fs

files_cut : (n : ℕ) (fs : List File) (rest : List ℕ) → AllByRecursion IsOfLines fs → AreCut n fs rest
unfolding file_texts pieces
files_cut n [] rest h = record { files = []; cut = rw (line_cut (codes "END") rest refl) refl; are = refl }
files_cut n (f ∷ fs) rest h =
    let next = files_cut (lines_on (next_number n) h.0.rows) fs rest h.1 in
    record {
      files = record { name = f.name; bytes = f.bytes; line = n } ∷ next.files;
      cut = ap (λ (t : List ℕ). pieces n (lines t)) (append_assoc (file_text f) (file_texts fs) (codes "END\n" ++ rest))
          ∙ file_in f h.0 (file_texts fs ++ (codes "END\n" ++ rest)) n next.files next.cut;
      are = ap (λ (others : List File). f ∷ others) next.are;
    }

-- of which the first line is a line FILE
deck_cut : (n : ℕ) (f : File) (fs : List File) (rest : List ℕ) → AllByRecursion IsOfLines (f ∷ fs) →
    (files : List TextFile) × (cut_at n (lines (file_texts (f ∷ fs) ++ (codes "END\n" ++ rest))) ≡ Ok files) × (map file_of files ≡ f ∷ fs)
unfolding file_texts
deck_cut n f fs rest h =
    let next = files_cut (lines_on (next_number n) h.0.rows) fs rest h.1 in (
      record { name = f.name; bytes = f.bytes; line = n } ∷ next.files,
      ap (λ (t : List ℕ). cut_at n (lines t)) (append_assoc (file_text f) (file_texts fs) (codes "END\n" ++ rest))
          ∙ file_first f h.0 (file_texts fs ++ (codes "END\n" ++ rest)) n next.files next.cut,
      ap (λ (others : List File). f ∷ others) next.are,
    )

pub decks_are_cut : DecksAreCut
unfolding zoned_text written
decks_are_cut m zones n rest =
    let at = append_assoc (file_texts (zoned_files m zones)) (codes "END\n") rest in
    let is = by_zones zones in
    record { files = is.0; cut = ap (λ (t : List ℕ). cut_at n (lines t)) at ∙ is.1; are = is.2 }
  where
    by_zones : (zs : Option (List ℕ)) → (files : List TextFile) × (cut_at n (lines (file_texts (zoned_files m zs) ++ (codes "END\n" ++ rest))) ≡ Ok files)
        × (map file_of files ≡ zoned_files m zs)
    by_zones None = deck_cut n _ _ rest (are_of_lines m None)
    by_zones (Some zs) = deck_cut n _ _ rest (are_of_lines m (Some zs))

-- the first line of a deck's text is a line FILE
abbrev Begins : List ℕ → Type 0
Begins bytes = (row : Line) × (rows : List Line) × (lines bytes ≡ row ∷ rows) × (is_file_line row ≡ true)

files_begin : (f : File) (fs : List File) (rest : List ℕ) → IsOfLines f → Begins ((file_texts (f ∷ fs) ++ codes "END\n") ++ rest)
unfolding file_texts
files_begin f fs rest h =
    let more = file_texts fs ++ codes "END\n" in (
      codes "FILE " ++ f.name,
      h.rows ++ lines (more ++ rest),
      ap lines (ap (λ (t : List ℕ). t ++ rest) (append_assoc (file_text f) (file_texts fs) (codes "END\n")) ∙ append_assoc (file_text f) more rest)
          ∙ file_lines f h (more ++ rest),
      opens f h [],
    )

pub deck_begins : (m : FlowModel) (zones : Option (List ℕ)) (rest : List ℕ) → Begins (zoned_text m zones ++ rest)
unfolding zoned_text written
deck_begins m None rest = files_begin _ _ rest (are_of_lines m None).0
deck_begins m (Some zones) rest = files_begin _ _ rest (are_of_lines m (Some zones)).0
