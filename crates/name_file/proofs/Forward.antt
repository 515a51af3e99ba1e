-- The files of a name file are words of it.
use Rattle.name_file.proofs.Common.{◌≡◌, ℕ, List, [], ◌∷◌, Option, Some, None, Ok, All, Contains, All-nil, All-push, All-head, All-tail, All-contains, folder_name, Numbered, is_comment, Pairs}
use Rattle.name_file.proofs.Common.{has_package, is_integer, file_in, after_package, after_type, after_words, after_line, after_lines, whole, names_of, Package, Dis, Bas, Lpf, WordsMay, TextMay}
use Rattle.name_file.proofs.Common.{words, LineMay, NamesMay, package_of, is_passed_over, GivesOnly}
use Rattle.record_lines.proofs.Forward.{word_held, name_held, text_held}
use Rattle.record_lines.proofs.Readings.{ok_gives_only, either, if_clear, if_passed, err_gives_only, then_}

module _ (may : List ℕ → Type 0) where
  abbrev Named : Pairs → Type 0
  Named names = All (λ pair. may (folder_name pair.1)) names

  file_held : (file : List ℕ) (line : ℕ) (ws : List (List ℕ)) → WordsMay may ws → GivesOnly (λ n. may (folder_name n)) (file_in file line ws)
  unfolding file_in
  file_held file line ws h =
      then_ _ (word_held may _ ws h) (λ unit hu. then_ _ (word_held may _ unit.1 hu.1)
      (λ name hn. if_passed (is_integer unit.0) _ _ (λ e. name_held may file line name.0 hn.0)))

  package_held : (file : List ℕ) (line : ℕ) (found : Package) (ws : List (List ℕ)) (names : Pairs) → WordsMay may ws → Named names → GivesOnly Named (after_package file line found ws names)
  unfolding after_package
  package_held file line found ws names h all =
      then_ _ (file_held file line ws h) (λ name hn. if_clear (has_package found names) _ _ (λ e. ok_gives_only (All-push (λ pair. may (folder_name pair.1)) names (found, name) all hn)))

  type_held : (o : Option Package) (file : List ℕ) (line : ℕ) (ws : List (List ℕ)) (names : Pairs) → WordsMay may ws → Named names → GivesOnly Named (after_type o file line ws names)
  type_held None file line ws names h all = err_gives_only
  type_held (Some found) file line ws names h all = package_held file line found ws names h all

  words_held : (file : List ℕ) (line : ℕ) (ws : List (List ℕ)) (names : Pairs) → WordsMay may ws → Named names → GivesOnly Named (after_words file line ws names)
  words_held file line [] names h all = ok_gives_only all
  words_held file line (kind ∷ ws) names h all =
      either (is_passed_over kind) (ok_gives_only all) (type_held (package_of kind) file line ws names (All-tail (λ w. may (folder_name w)) kind ws h) all)

  line_held : (file : List ℕ) (line : Numbered) (names : Pairs) → LineMay may line → Named names → GivesOnly Named (after_line file line names)
  unfolding after_line
  line_held file line names h all = either (is_comment line.bytes) (ok_gives_only all) (words_held file line.number (words line.bytes) names h all)

  lines_held : (file : List ℕ) (ls : List Numbered) (names : Pairs) → All (LineMay may) ls → Named names → GivesOnly Named (after_lines file ls names)
  unfolding after_lines
  lines_held file [] names h all = ok_gives_only all
  lines_held file (line ∷ others) names h all =
      then_ (after_lines file others) (line_held file line names (All-head (LineMay may) line others h) all) (λ next hn. lines_held file others next (All-tail (LineMay may) line others h) hn)

  whole_held : (file : List ℕ) (names : Pairs) → Named names → GivesOnly Named (whole file names)
  unfolding whole
  whole_held file names h = either (has_package Dis names) (either (has_package Bas names) (either (has_package Lpf names) (ok_gives_only h) err_gives_only) err_gives_only) err_gives_only

  names_held : (file bytes : List ℕ) → TextMay may bytes → GivesOnly Named (names_of file bytes)
  unfolding names_of
  names_held file bytes h =
      then_ _ (lines_held file _ [] (text_held may 1 bytes h).each (All-nil (λ pair. may (folder_name pair.1)))) (λ names all. whole_held file names all)

  -- the files of the packages
  pub files_named : (file bytes : List ℕ) (names : Pairs) → names_of file bytes ≡ Ok names → TextMay may bytes → NamesMay may names
  files_named file bytes names e h = record { each = (names_held file bytes h).gives names e }

  -- the file of one of them
  pub file_named : (names : Pairs) (asked : Package) (name : List ℕ) → NamesMay may names → Contains names (asked, name) → may (folder_name name)
  file_named names asked name h at = All-contains (λ pair. may (folder_name pair.1)) names (asked, name) h.each at

-- what might be asked for may still be
pub names_still : (may more : List ℕ → Type 0) (names : Pairs) → ((name : List ℕ) → may name → more name) → NamesMay may names → NamesMay more names
names_still may more names still h = record { each = λ k d lt. still _ (h.each k d lt) }
