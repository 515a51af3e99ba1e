-- The first line of items leaves lines that it was given.
use Rattle.list_package.proofs.Common.{ℕ, List, All, codes, begins_with, Left, Numbered, GivesOnly, item_line, words, ok_gives_only, if_clear, then_}
use Rattle.record_lines.proofs.Forward.{line_held}

pub item_held : (P : Numbered → Type 0) (file : List ℕ) (left : Left) → All P left.lines → GivesOnly (λ x. All P x.1.lines) (item_line file left)
unfolding item_line
item_held P file left h = then_ _ (line_held P file left h) (λ line hl. if_clear (begins_with (codes "PARAMETER") (words line.0.bytes)) _ _ (λ e. ok_gives_only hl.1))
