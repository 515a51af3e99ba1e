use Rattle.record_lines.proofs.Forward.{line_leaves}
use Rattle.array_reader.proofs.Forward.{control_named}
use Rattle.array_reader.proofs.arrays.read_array.Goals as goal

pub values_of-requires-clause-name : goal.values_of-requires-clause-name
values_of-requires-clause-name g c = control_named _ _ _ _ _ _ _ _ _ c.in_ok-line.ensures c.of-words.ensures c.in_ok-control.ensures.record c.requires.lines

pub values_of-requires-clause-lines : goal.values_of-requires-clause-lines
values_of-requires-clause-lines g c = line_leaves _ _ _ _ _ c.in_ok-line.ensures c.requires.lines
