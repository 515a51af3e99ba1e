use Rattle.conductance_bounds.proofs.FaceBounds.{faces_enclose}
use Rattle.conductance_bounds.proofs.laws.faces_enclose.Goals as goal

pub returns : goal.returns
returns c = λ m. faces_enclose m
