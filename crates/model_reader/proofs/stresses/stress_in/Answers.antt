use Rattle.name_file.proofs.Forward.{file_named}
use Rattle.model_reader.proofs.stresses.stress_in.Goals as goal

pub open_file-requires-clause-may : goal.open_file-requires-clause-may
open_file-requires-clause-may g c = file_named _ _ _ _ c.requires.names c.in-Some.ensures.pair

pub stress_of-requires-clause-text : goal.stress_of-requires-clause-text
stress_of-requires-clause-text g c = rw c.deref.ensures.value c.in_ok-bytes-in-Some.ensures.words
