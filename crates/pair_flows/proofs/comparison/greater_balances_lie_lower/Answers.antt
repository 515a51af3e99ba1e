use Rattle.pair_flows.proofs.Ordered.{greater_balances_lie_lower}
use Rattle.pair_flows.proofs.comparison.greater_balances_lie_lower.Goals as goal

pub returns : goal.returns
returns c = greater_balances_lie_lower
