use Rattle.flow_equations.proofs.GivenAtSteps.{given_heads_of}
use Rattle.flow_equations.proofs.stresses.given_heads.Goals as goal

pub returns : goal.returns
returns c m p k x e = given_heads_of m p k x e
