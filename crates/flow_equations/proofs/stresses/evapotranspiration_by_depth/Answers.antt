use Rattle.flow_equations.proofs.ReceivedFlows.{evaporates_by_depth}
use Rattle.flow_equations.proofs.stresses.evapotranspiration_by_depth.Goals as goal

pub returns : goal.returns
returns c m p n old k v x h = evaporates_by_depth m k x h p n old v
