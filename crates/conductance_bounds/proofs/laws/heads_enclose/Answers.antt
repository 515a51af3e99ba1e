use Rattle.conductance_bounds.proofs.ModelBounds.{heads_enclose}
use Rattle.conductance_bounds.proofs.laws.heads_enclose.Goals as goal

pub returns : goal.returns
returns c = heads_enclose
