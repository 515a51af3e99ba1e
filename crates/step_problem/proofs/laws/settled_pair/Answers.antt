use Rattle.step_problem.proofs.BothSettle.{settled_pair_is_there, settled_pair_is_one}
use Rattle.step_problem.proofs.laws.settled_pair.Goals as goal

pub returns-clause-exists : goal.returns-clause-exists
returns-clause-exists c = settled_pair_is_there

pub returns-clause-one : goal.returns-clause-one
returns-clause-one c = settled_pair_is_one
