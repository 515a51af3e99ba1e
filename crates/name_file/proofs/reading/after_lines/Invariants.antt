use Rattle.name_file.proofs.Common.{◌≡◌, length, after_lines}
use Rattle.name_file.proofs.reading.after_lines.Given as goal

abbrev pub invariant-loop-line : goal.invariant-loop-line
invariant-loop-line l = after_lines l.file l.lines.lines l.names ≡ after_lines l.file l.fn.lines.lines l.fn.names

abbrev pub decreases-loop-line : goal.decreases-loop-line
decreases-loop-line l = length l.lines.lines
