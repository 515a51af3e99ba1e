use Rattle.std.proofs.Common.{refl}
use Rattle.engine.proofs.making.summarize_by_workers.Goals as goal

pub summarize-requires-clause-pairs : goal.summarize-requires-clause-pairs
summarize-requires-clause-pairs g c = rw c.requires.plain refl
