use Rattle.exact_budgets.proofs.Balance.{solutions_balance}
use Rattle.exact_budgets.proofs.laws.in_is_out.Goals as goal

pub returns : goal.returns
returns c = solutions_balance
