use Rattle.name_file.proofs.Forward.{files_named}
use Rattle.model_reader.proofs.model.read_name_file.Goals as goal

pub returns-clause-files : goal.returns-clause-files
returns-clause-files g c = files_named _ _ _ _ c.in_ok-read_names.ensures.names (rw c.deref.ensures.value c.in_ok-bytes.ensures.words)
