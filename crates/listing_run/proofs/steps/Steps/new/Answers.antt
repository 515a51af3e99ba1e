use Rattle.std.proofs.Common.{refl}
use Rattle.listing_run.proofs.steps.Steps.new.Goals as goal

pub returns-clause-first : goal.returns-clause-first
returns-clause-first c = record { start = c.in_ok-heads.ensures.bounds; encloses = c.in_ok-heads.ensures.encloses; done = refl }
