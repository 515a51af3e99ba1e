use Rattle.relax_core.proofs.Keeping.{path_keeps}
use Rattle.relax_core.proofs.laws.events_keep.Goals as goal

pub returns : goal.returns
returns c p b events s t ok = path_keeps p ok b events s t
