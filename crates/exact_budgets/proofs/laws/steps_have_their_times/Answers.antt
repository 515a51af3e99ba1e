use Rattle.exact_budgets.proofs.Bounds.{steps_have_their_times, certified_have_their_times}
use Rattle.exact_budgets.proofs.laws.steps_have_their_times.Goals as goal

pub returns-clause-whole : goal.returns-clause-whole
returns-clause-whole c = steps_have_their_times

pub returns-clause-certified : goal.returns-clause-certified
returns-clause-certified c = certified_have_their_times
