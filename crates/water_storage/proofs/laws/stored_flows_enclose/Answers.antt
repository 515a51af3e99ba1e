use Rattle.water_storage.proofs.Flows.{stored_flows_enclose}
use Rattle.water_storage.proofs.laws.stored_flows_enclose.Goals as goal

pub returns : goal.returns
returns c = stored_flows_enclose
