use Rattle.stated_text.proofs.Common.{◌≡◌, length, lines, pieces, ◌>>=◌, cut_after}
use Rattle.stated_text.proofs.CutTexts.{combined}
use Rattle.stated_text.proofs.cutting.cut_rest.Given as goal

abbrev pub invariant-loop-left : goal.invariant-loop-left
invariant-loop-left l = (pieces l.number (lines l.left) >>= combined l.files.items l.last) ≡ cut_after l.fn.begun l.line (lines l.fn.bytes)

abbrev pub decreases-loop-left : goal.decreases-loop-left
decreases-loop-left l = length l.left
