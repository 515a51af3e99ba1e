use Rattle.gentle_check.proofs.Balances.{balances_enclose}
use Rattle.gentle_check.proofs.laws.balances_enclose.Goals as goal

pub returns : goal.returns
returns c = balances_enclose
