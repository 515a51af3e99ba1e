use Rattle.flow_equations.proofs.Darcy.{between_halves}
use Rattle.flow_equations.proofs.branches.harmonic_mean.Goals as goal

pub returns : goal.returns
returns c r q = between_halves r q
