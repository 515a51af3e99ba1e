use Rattle.step_problem.proofs.{BothSides.low_side, BothSides.high_side, Sides.rounds_keep}
use Rattle.step_problem.proofs.laws.rounds_keep_order.Goals as goal

pub returns : goal.returns
returns c p ok = (rounds_keep (low_side p ok), rounds_keep (high_side p ok))
