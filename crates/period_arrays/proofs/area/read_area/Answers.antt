use Rattle.record_lines.proofs.Forward.{line_leaves}
use Rattle.period_arrays.proofs.area.read_area.Goals as goal

pub read_by-requires-clause-lines : goal.read_by-requires-clause-lines
read_by-requires-clause-lines g c = line_leaves _ _ _ _ _ c.in_ok-line.ensures c.requires.lines
