-- A text that isn't empty has a line.
use Rattle.listing_io.proofs.Common.{◌≡◌, ℕ, ◌<◌, List, length, ap, Err, lines, none_of}
use Rattle.record_lines.proofs.CutLemmas.{lines_cut}

pub has_a_line : (text : List ℕ) (n : ℕ) → 0 < length text → none_of n (lines text) ≡ Err n
has_a_line text n h = ap (none_of n) (lines_cut text h)
