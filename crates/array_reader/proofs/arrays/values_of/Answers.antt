use Rattle.array_reader.proofs.Forward.{rows_leave}
use Rattle.array_reader.proofs.arrays.values_of.Goals as goal

pub returns-in_ok-free_rows-in-Internal-clause-lines : goal.returns-in_ok-free_rows-in-Internal-clause-lines
returns-in_ok-free_rows-in-Internal-clause-lines g c = rows_leave _ _ _ _ _ _ _ _ c.in_ok-free_rows-in-Internal.ensures c.requires.lines
