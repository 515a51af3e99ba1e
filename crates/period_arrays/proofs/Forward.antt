-- The line of the option leaves lines that it was given.
use Rattle.period_arrays.proofs.Common.{◌≡◌, ℕ, ℤ, List, Ok, All, LineMay, LinesMay, rest_has_its_lines, ArrayKind, option_line, unit_if, Left, Numbered, GivesOnly, option_at, words, ok_gives_only}
use Rattle.period_arrays.proofs.Common.{goes_on, then_}
use Rattle.list_package.proofs.Forward.{item_held}

option_held : (P : Numbered → Type 0) (kind : ArrayKind) (file : List ℕ) (left : Left) → All P left.lines → GivesOnly (λ x. All P x.1.lines) (option_line kind file left)
unfolding option_line
option_held P kind file left h =
    then_ _ (item_held P file left h) (λ line hl. goes_on (option_at file line.0.number (words line.0.bytes)) _
    (λ option e. goes_on (unit_if kind.evaporates file line.0.number option.1) _ (λ unit d. ok_gives_only hl)))

pub option_leaves : (may : List ℕ → Type 0) (kind : ArrayKind) (file : List ℕ) (left rest : Left) (option : ℤ) → option_line kind file left ≡ Ok (option, rest) → LinesMay may left → LinesMay may rest
option_leaves may kind file left rest option e h = rest_has_its_lines may option rest e (option_held (LineMay may) kind file left h.each)
