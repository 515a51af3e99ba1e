-- The line of options and HNOFLO leave lines that they were given.
use Rattle.bas_package.proofs.Common.{LineMay, LinesMay, line_held, rest_has_its_lines, Left, Numbered, GivesOnly, ◌≡◌, ℕ, List, Ok, All, words, is_in_profile, option_line, head_item, ok_gives_only}
use Rattle.bas_package.proofs.Common.{goes_on, if_passed, then_}
use Rattle.array_reader.specs.{number_at, number}

module _ (P : Numbered → Type 0) (file : List ℕ) where
  option_held : (left : Left) → All P left.lines → GivesOnly (λ x. All P x.1.lines) (option_line file left)
  unfolding option_line
  option_held left h = then_ _ (line_held P file left h) (λ line hl. if_passed (is_in_profile (words line.0.bytes)) _ _ (λ e. ok_gives_only hl.1))

  head_held : (left : Left) → All P left.lines → GivesOnly (λ x. All P x.1.lines) (head_item file left)
  unfolding head_item
  head_held left h = then_ _ (line_held P file left h) (λ line hl. goes_on (number_at number file line.0.number (words line.0.bytes)) _ (λ hnoflo e. ok_gives_only hl.1))

module _ (may : List ℕ → Type 0) (file : List ℕ) (left rest : Left) where
  pub option_leaves : option_line file left ≡ Ok (tt, rest) → LinesMay may left → LinesMay may rest
  option_leaves e h = rest_has_its_lines may tt rest e (option_held (LineMay may) file left h.each)

  pub head_leaves : head_item file left ≡ Ok (tt, rest) → LinesMay may left → LinesMay may rest
  head_leaves e h = rest_has_its_lines may tt rest e (head_held (LineMay may) file left h.each)
