use Rattle.name_file.proofs.NameLemmas.{no_files}
use Rattle.name_file.proofs.names.Gathered.new.Goals as goal

pub invariant_of-result : goal.invariant_of-result
invariant_of-result c = no_files c.new.result.entries c.new.ensures.empty
