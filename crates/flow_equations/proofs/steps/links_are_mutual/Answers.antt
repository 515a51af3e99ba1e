use Rattle.flow_equations.proofs.Links.{are_linked}
use Rattle.flow_equations.proofs.steps.links_are_mutual.Goals as goal

pub returns : goal.returns
returns c m p n old size = are_linked m p n old size
