use Rattle.water_enclosure.proofs.laws.greater_balances_lie_lower.Goals as goal
use Rattle.water_enclosure.proofs.Order.{greater_balances_lie_lower}

pub returns : goal.returns
returns c = greater_balances_lie_lower
