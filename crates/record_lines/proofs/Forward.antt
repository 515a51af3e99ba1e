-- What a reading takes and leaves are words and lines that it was given.
use Rattle.record_lines.proofs.Common.{◌≡◌, ℕ, Bool, true, false, List, [], ◌∷◌, Option, Some, None, Result, Ok, Err, All, refl, ◌==◌, if◌then◌else◌, lines, words, Refusal, Left, Numbered, has_word}
use Rattle.record_lines.proofs.Common.{next_number, lines_with_numbers, left_from, is_comment, after_comments, without_comments, Taking, spread, taking, next_word, source, word_taken, next_value}
use Rattle.record_lines.proofs.Common.{WordsMay, TextMay, folder_name, is_good_name, LineMay, LinesMay, word_at, line_from, line_at, name_at, GivesOnly, All-nil, All-cons, All-head, All-tail}
use Rattle.record_lines.specs.declared.free.FreeFault.{FreeFault}
use Rattle.record_lines.proofs.Readings.{ok_gives_only, err_gives_only, if_passed}

module _ (P : Numbered → Type 0) where
  abbrev Held : Left → Type 0
  Held left = All P left.lines

  from_lines : (file : List ℕ) (ls : List Numbered) (end : ℕ) → All P ls → GivesOnly (λ x. P x.0 × Held x.1) (line_from file ls end)
  from_lines file [] end h = err_gives_only
  from_lines file (l ∷ ls) end h = ok_gives_only (All-head P l ls h, All-tail P l ls h)

  pub line_held : (file : List ℕ) (left : Left) → Held left → GivesOnly (λ x. P x.0 × Held x.1) (line_at file left)
  unfolding line_at
  line_held file left h = from_lines file left.lines left.end h

  after_held : (ls : List Numbered) → All P ls → All P (after_comments ls)
  after_held [] h = h
  after_held (l ∷ ls) h = cases (is_comment l.bytes) (after_held ls (All-tail P l ls h)) h
    where
      cases : (b : Bool) → All P (after_comments ls) → All P (l ∷ ls) → All P (if b then after_comments ls else l ∷ ls)
      cases true rest all = rest
      cases false rest all = all

  pub comments_held : (left : Left) → Held left → Held (without_comments left)
  comments_held left h = after_held left.lines h

  -- a free list takes its words from the lines
  taking_held : (number : ℕ) (ws : List (List ℕ)) (o : Option (ℕ × List ℕ)) (left : Left) → Held left → GivesOnly (λ t. Held t.1) (taking number ws o left)
  taking_held number ws None left h = err_gives_only
  taking_held number ws (Some x) left h = ok_gives_only h

  next_word_held : (number : ℕ) (ws : List (List ℕ)) (ls : List Numbered) (end : ℕ) → All P ls → GivesOnly (λ t. Held t.1) (next_word number ws ls end)
  unfolding next_word
  next_word_held number (w ∷ ws) ls end h = taking_held number ws (spread w) (record { lines = ls; end = end }) h
  next_word_held number [] [] end h = err_gives_only
  next_word_held number [] (l ∷ ls) end h = next_word_held l.number (words l.bytes) ls end (All-tail P l ls h)

  source_held : (t : Taking) (left : Left) → (b : Bool) → (t.repeat == 0) ≡ b → Held left → GivesOnly (λ s. Held s.1) (source t left)
  source_held t left true is h = rw is (next_word_held t.number t.words left.lines left.end h)
  source_held t left false is h = rw is (ok_gives_only h)

  taken_held : (r : Result (Taking × Left) FreeFault) → GivesOnly (λ s. Held s.1) r → GivesOnly (λ x. Held x.1.1) (word_taken r)
  taken_held (Ok s) h = ok_gives_only (h.gives s refl)
  taken_held (Err fault) h = err_gives_only

  pub value_held : (t : Taking) (left : Left) → Held left → GivesOnly (λ x. Held x.1.1) (next_value t left)
  unfolding next_value
  value_held t left h = taken_held (source t left) (source_held t left (t.repeat == 0) refl h)

module _ (may : List ℕ → Type 0) where
  -- the next word of a line
  pub word_held : (missing : Refusal) (ws : List (List ℕ)) → WordsMay may ws → GivesOnly (λ x. may (folder_name x.0) × WordsMay may x.1) (word_at missing ws)
  unfolding word_at
  word_held missing [] h = err_gives_only
  word_held missing (w ∷ ws) h = ok_gives_only (All-head (λ w. may (folder_name w)) w ws h, All-tail (λ w. may (folder_name w)) w ws h)

  -- a word as a name
  pub name_held : (file : List ℕ) (line : ℕ) (name : List ℕ) → may (folder_name name) → GivesOnly (λ n. may (folder_name n)) (name_at file line name)
  unfolding name_at
  name_held file line name h = if_passed (is_good_name name) _ _ (λ e. ok_gives_only h)

  numbered_held : (n : ℕ) (ls : List (List ℕ)) → All (λ line. WordsMay may (words line)) ls → All (LineMay may) (lines_with_numbers n ls)
  unfolding lines_with_numbers
  numbered_held n [] h = All-nil (LineMay may)
  numbered_held n (l ∷ ls) h = cases (has_word l) (All-head (λ line. WordsMay may (words line)) l ls h) (numbered_held (next_number n) ls (All-tail (λ line. WordsMay may (words line)) l ls h))
    where
      cases : (b : Bool) → WordsMay may (words l) → All (LineMay may) (lines_with_numbers (next_number n) ls) →
          All (LineMay may) (if b then record { number = n; bytes = l } ∷ lines_with_numbers (next_number n) ls else lines_with_numbers (next_number n) ls)
      cases true one rest = All-cons (LineMay may) (record { number = n; bytes = l }) (lines_with_numbers (next_number n) ls) one rest
      cases false one rest = rest

  -- the lines of a text
  pub text_held : (n : ℕ) (text : List ℕ) → TextMay may text → LinesMay may (left_from n text)
  unfolding left_from
  text_held n text h = record { each = numbered_held n (lines text) h.each }

  -- the text without its leading comments
  pub begun_held : (text : List ℕ) → TextMay may text → LinesMay may (without_comments (left_from 1 text))
  begun_held text h = record { each = comments_held (LineMay may) (left_from 1 text) (text_held 1 text h).each }

  -- the next line, and what is left after it
  pub line_words : (file : List ℕ) (left rest : Left) (line : Numbered) → line_at file left ≡ Ok (line, rest) → LinesMay may left → WordsMay may (words line.bytes)
  line_words file left rest line e h = ((line_held (LineMay may) file left h.each).gives (line, rest) e).0

  pub line_leaves : (file : List ℕ) (left rest : Left) (line : Numbered) → line_at file left ≡ Ok (line, rest) → LinesMay may left → LinesMay may rest
  line_leaves file left rest line e h = record { each = ((line_held (LineMay may) file left h.each).gives (line, rest) e).1 }

-- a reading that keeps all lines leaves lines of which the same is known
pub rest_has_its_lines : {X : Type 0} (may : List ℕ → Type 0) {read : Result (X × Left) Refusal} (x : X) (rest : Left) → read ≡ Ok (x, rest) →
    GivesOnly (λ x. All (LineMay may) x.1.lines) read → LinesMay may rest
rest_has_its_lines may x rest e h = record { each = h.gives (x, rest) e }

-- what might be asked for may still be
pub lines_still : (may more : List ℕ → Type 0) (left : Left) → ((name : List ℕ) → may name → more name) → LinesMay may left → LinesMay more left
lines_still may more left still h = record { each = λ k d lt i e less. still _ (h.each k d lt i e less) }
