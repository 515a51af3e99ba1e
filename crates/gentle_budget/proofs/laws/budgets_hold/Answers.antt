use Rattle.gentle_budget.proofs.Held.{budget_held}
use Rattle.gentle_budget.proofs.laws.budgets_hold.Goals as goal

pub returns : goal.returns
returns c = budget_held
