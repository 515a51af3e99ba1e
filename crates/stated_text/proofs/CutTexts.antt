-- How lines are cut into files, line by line.
use Rattle.stated_text.proofs.Common.{◌≡◌, ℕ, Bool, true, false, List, [], ◌∷◌, ◌++◌, None, Option, Some, Result, Ok, Err, refl, sym, ap, ◌∙◌, arith, length, take, drop, codes, append_assoc}
use Rattle.stated_text.proofs.Common.{append-nil, bytes_eq, is_good_name, next_number, ◌>>=◌, TextFile, is_file_line, joined, pieces, suc, lines, IsGoodName, MatchOption, Line, ended_line}
use Rattle.outside.proofs.NameTests.{is_taken, is_good}

-- Readings in a row.
pub in_a_row : {A B C E : Type 0} (r : Result A E) (f : A → Result B E) (g : B → Result C E) → ((r >>= f) >>= g) ≡ (r >>= λ x. f x >>= g)
in_a_row (Ok x) f g = refl
in_a_row (Err e) f g = refl

pub same_after : {A B E : Type 0} (r : Result A E) (f g : A → Result B E) → ((x : A) → f x ≡ g x) → (r >>= f) ≡ (r >>= g)
same_after (Ok x) f g h = h x
same_after (Err e) f g h = refl

-- the files so far, the last one of which goes on
abbrev pub combined : List TextFile → TextFile → List ℕ × List TextFile → Result (List TextFile) ℕ
combined files last p = Ok (files ++ (record last { bytes = last.bytes ++ p.0 } ∷ p.1))

-- a file that is begun
abbrev pub begun : Line → ℕ → TextFile
begun row n = record { name = drop 5 row; bytes = []; line = n }

module _ (files : List TextFile) (last : TextFile) (n : ℕ) where
  pub at_nothing : (pieces n [] >>= combined files last) ≡ Err n
  unfolding pieces
  at_nothing = refl

  pub at_end : (row : Line) (rows : List Line) → bytes_eq row (codes "END") ≡ true → (pieces n (row ∷ rows) >>= combined files last) ≡ Ok (files ++ (last ∷ []))
  unfolding pieces
  at_end row rows e = let none : last.bytes ++ [] ≡ last.bytes = append-nil last.bytes in rw (e, none) refl

  pub at_file : (row : Line) (rows : List Line) → bytes_eq row (codes "END") ≡ false → is_file_line row ≡ true
      → (pieces n (row ∷ rows) >>= combined files last) ≡ (pieces (next_number n) rows >>= combined (files ++ (last ∷ [])) (begun row n))
  unfolding pieces
  at_file row rows e f =
      let none : last.bytes ++ [] ≡ last.bytes = append-nil last.bytes in
      let step : (p : List ℕ × List TextFile) → (Ok (joined n row p) >>= combined files last) ≡ combined (files ++ (last ∷ [])) (begun row n) p =
      λ p. rw (f, none) (ap Ok (sym (append_assoc files (last ∷ []) (record (begun row n) { bytes = p.0 } ∷ p.1)))) in
      rw e (in_a_row (pieces (next_number n) rows) (λ p. Ok (joined n row p)) (combined files last) ∙ same_after (pieces (next_number n) rows) _ _ step)

  pub at_line : (row : Line) (rows : List Line) → bytes_eq row (codes "END") ≡ false → is_file_line row ≡ false
      → (pieces n (row ∷ rows) >>= combined files last) ≡ (pieces (next_number n) rows >>= combined files (record last { bytes = last.bytes ++ ended_line row }))
  unfolding pieces
  at_line row rows e f =
      let step : (p : List ℕ × List TextFile) → (Ok (joined n row p) >>= combined files last) ≡ combined files (record last { bytes = last.bytes ++ ended_line row }) p =
      λ p. rw f (let same : last.bytes ++ (ended_line row ++ p.0) ≡ last.bytes ++ ended_line row ++ p.0 = sym (append_assoc last.bytes (ended_line row) p.0) in rw same refl) in
      rw e (in_a_row (pieces (next_number n) rows) (λ p. Ok (joined n row p)) (combined files last) ∙ same_after (pieces (next_number n) rows) _ _ step)

-- the next line in a text
module _ (files more : List TextFile) (last file : TextFile) (n next : ℕ) (row : Line) (rows : List Line) (left : List ℕ) (target : Result (List TextFile) ℕ) (cut : lines left ≡ row ∷ rows)
    (no_end : bytes_eq row (codes "END") ≡ false) (number : next ≡ next_number n) (h : (pieces n (lines left) >>= combined files last) ≡ target) where
  pub then_file : (name : List ℕ) → is_file_line row ≡ true → name ≡ drop 5 row → more ≡ files ++ (last ∷ []) → file ≡ record { name = name; bytes = []; line = n }
      → (pieces next rows >>= combined more file) ≡ target
  then_file name is name_is more_is file_is = rw (number, file_is, name_is, more_is) (sym (at_file files last n row rows no_end is) ∙ (rw cut at h))

  pub then_line : is_file_line row ≡ false → more ≡ files → file ≡ record last { bytes = last.bytes ++ ended_line row } → (pieces next rows >>= combined more file) ≡ target
  then_line is more_is file_is = rw (number, file_is, more_is) (sym (at_line files last n row rows no_end is) ∙ (rw cut at h))

pub no_lines : (text : List ℕ) → length text ≡ 0 → lines text ≡ []
unfolding lines
no_lines [] e = refl
no_lines (b ∷ text) e = absurd (let some : suc (length text) ≡ 0 = e in omega arith)

-- Lines FILE.
module _ (line : Line) where
  pub bad_name : (name : List ℕ) → name ≡ drop 5 line → (IsGoodName name → ⊥) → is_file_line line ≡ false
  bad_name name is bad = by_test (is_good_name (drop 5 line)) (bytes_eq (take 5 line) (codes "FILE ")) refl refl
    where
      by_test : (good first : Bool) → is_good_name (drop 5 line) ≡ good → bytes_eq (take 5 line) (codes "FILE ") ≡ first → is_file_line line ≡ false
      by_test true first e f = absurd (bad (rw is (is_good (drop 5 line) e)))
      by_test false true e f = rw (e, f) refl
      by_test false false e f = rw (e, f) refl

  pub good_line : (word name : List ℕ) → word ≡ take 5 line → name ≡ drop 5 line → bytes_eq word (codes "FILE ") ≡ true → IsGoodName name → is_file_line line ≡ true
  good_line word name is back e good =
      let first : bytes_eq (take 5 line) (codes "FILE ") ≡ true = rw is at e in
      let last : is_good_name (drop 5 line) ≡ true = rw back at (is_taken name good) in
      rw (first, last) refl

  -- what a line FILE's name was found to be
  pub named : {X : Type 0} (now : X → List ℕ) (word name : List ℕ) (r : Option X) → word ≡ take 5 line → name ≡ drop 5 line → bytes_eq word (codes "FILE ") ≡ true
      → MatchOption r (IsGoodName name → ⊥) (λ t. (now t ≡ name) × IsGoodName name) → MatchOption r (is_file_line line ≡ false) (λ t. (is_file_line line ≡ true) × (now t ≡ drop 5 line))
  named now word name None is back e bad = bad_name name back bad
  named now word name (Some t) is back e good = (good_line word name is back e good.1, good.0 ∙ back)
