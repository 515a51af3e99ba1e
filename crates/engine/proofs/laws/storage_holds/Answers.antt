use Rattle.engine.proofs.StoredSteps.{storage_holds}
use Rattle.engine.proofs.laws.storage_holds.Goals as goal

pub returns : goal.returns
returns c = storage_holds
