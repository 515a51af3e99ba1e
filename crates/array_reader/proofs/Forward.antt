-- What arrays and control records take and leave are words and lines that they were given.
use Rattle.array_reader.proofs.Common.{◌≡◌, ℕ, List, Result, Ok, Err, All, refl, WordsMay, words, NumFault, LineMay, LinesMay, line_at, Left, Numbered, Taking, beginning, next_value, FreeFault}
use Rattle.array_reader.proofs.Common.{value_held, word_held, name_held, line_words, rest_has_its_lines, GivesOnly, number_at, at_line, in_file, value_at, value_alone, free_list, free_rows}
use Rattle.array_reader.proofs.Common.{ControlMay, keyword, format_at, of_keyword, control_at, zero_at, zero_step, zero_list, integer}
use Rattle.record_lines.proofs.Readings.{appended_held, counted_gives, ok_gives_only, goes_on, if_clear, err_gives_only, repeated_held, then_}
use Rattle.array_reader.specs.{Control.Control, declared.keyword.Keyword.Keyword, declared.keyword.Keyword.TheVariants.Constant, declared.keyword.Keyword.TheVariants.Internal}
use Rattle.array_reader.specs.{declared.keyword.Keyword.TheVariants.OpenClose, declared.keyword.Keyword.TheVariants.External, declared.keyword.Keyword.TheVariants.Other}
use Rattle.model_types.specs.{is_nonzero}

module _ {X : Type 0} (P : Numbered → Type 0) (read : List ℕ → Result X NumFault) (file : List ℕ) where
  in_file_held : {A : Type 0} (Q : A → Type 0) (r : Result A FreeFault) → GivesOnly Q r → GivesOnly Q (in_file file r)
  in_file_held Q (Ok a) h = ok_gives_only (h.gives a refl)
  in_file_held Q (Err fault) h = err_gives_only

  pub value_at_held : (s : Taking × Left) → All P s.1.lines → GivesOnly (λ x. All P x.1.1.lines) (value_at read file s)
  unfolding value_at
  value_at_held s h =
      then_ _ (in_file_held (λ x. All P x.1.1.lines) (next_value s.0 s.1) (value_held P s.0 s.1 h)) (λ v hv. goes_on (at_line file v.0.1 (read v.0.0)) _ (λ x e. ok_gives_only hv))

  pub value_alone_held : (s : Taking × Left) → All P s.1.lines → GivesOnly (λ x. All P x.1.1.lines) (value_alone read file s)
  unfolding value_alone
  value_alone_held s h = then_ _ (value_at_held s h) (λ x hx. ok_gives_only hx)

  pub list_held : (count : ℕ) (left : Left) → All P left.lines → GivesOnly (λ x. All P x.1.lines) (free_list read file count left)
  unfolding free_list
  list_held count left h = then_ _ (repeated_held (λ s. All P s.1.lines) (value_alone read file) value_alone_held count (beginning, left) h) (λ x hx. ok_gives_only hx)

  pub rows_held : (rows cols : ℕ) (left : Left) → All P left.lines → GivesOnly (λ x. All P x.1.lines) (free_rows read file rows cols left)
  unfolding free_rows
  rows_held rows cols left h = appended_held (λ l. All P l.lines) (free_list read file cols) (list_held cols) rows left h

module _ {X : Type 0} (may : List ℕ → Type 0) (read : List ℕ → Result X NumFault) (file : List ℕ) (line : ℕ) where
  by_keyword : (k : Keyword) (ws : List (List ℕ)) → WordsMay may ws → GivesOnly (ControlMay {X = X} may) (of_keyword k read file line ws)
  by_keyword Constant ws h = goes_on (number_at read file line ws) _ (λ value e. ok_gives_only tt)
  by_keyword Internal ws h = goes_on (number_at read file line ws) _ (λ by e. goes_on (format_at file line by.1) _ (λ form d. ok_gives_only tt))
  by_keyword OpenClose ws h =
      then_ _ (word_held may _ ws h) (λ word hw. then_ _ (name_held may file line word.0 hw.0)
      (λ name hn. goes_on (number_at read file line word.1) _ (λ by e. goes_on (format_at file line by.1) _ (λ form d. ok_gives_only hn))))
  by_keyword External ws h = err_gives_only
  by_keyword Other ws h = err_gives_only

  control_held : (ws : List (List ℕ)) → WordsMay may ws → GivesOnly (ControlMay {X = X} may) (control_at read file line ws)
  unfolding control_at
  control_held ws h = then_ _ (word_held may _ ws h) (λ word hw. by_keyword (keyword word.0) word.1 hw.1)

-- the file that the control record of the next line names
pub control_named : {X : Type 0} (may : List ℕ → Type 0) (read : List ℕ → Result X NumFault) (file : List ℕ) (number : ℕ) (left rest : Left) (line : Numbered) (ws : List (List ℕ)) (c : Control X)
    → line_at file left ≡ Ok (line, rest) → ws ≡ words line.bytes → control_at read file number ws ≡ Ok c → LinesMay may left → ControlMay may c
control_named may read file number left rest line ws c is all e h = (control_held may read file number ws (rw all (line_words may file left rest line is h))).gives c e

pub rows_leave : {X : Type 0} (may : List ℕ → Type 0) (read : List ℕ → Result X NumFault) (file : List ℕ) (rows cols : ℕ) (left rest : Left) (xs : List X)
    → free_rows read file rows cols left ≡ Ok (xs, rest) → LinesMay may left → LinesMay may rest
rows_leave may read file rows cols left rest xs e h = rest_has_its_lines may xs rest e (rows_held (LineMay may) read file rows cols left h.each)

-- Lists of zeros leave lines that they were given.
module _ (P : Numbered → Type 0) (file : List ℕ) where
  pub zero_held : (s : Taking × Left) → All P s.1.lines → GivesOnly (λ x. All P x.1.1.lines) (zero_at file s)
  unfolding zero_at
  zero_held s h = then_ _ (value_at_held P integer file s h) (λ z hz. if_clear (is_nonzero z.0.0) _ _ (λ e. ok_gives_only hz))

  step_held : (i : ℕ) (s : Taking × Left) → All P s.1.lines → GivesOnly (λ x. All P x.1.lines) (zero_step file i s)
  unfolding zero_step
  step_held i s h = then_ _ (zero_held s h) (λ z hz. ok_gives_only hz)

  pub zeros_held : (count : ℕ) (left : Left) → All P left.lines → GivesOnly (λ x. All P x.1.lines) (zero_list file count left)
  unfolding zero_list
  zeros_held count left h = then_ _ (counted_gives (zero_step file) (λ i s. All P s.1.lines) step_held count (beginning, left) h) (λ s hs. ok_gives_only hs)
