use Rattle.gentle_zones.proofs.Held.{flows_hold}
use Rattle.gentle_zones.proofs.laws.flows_hold.Goals as goal

pub returns : goal.returns
returns c = flows_hold
