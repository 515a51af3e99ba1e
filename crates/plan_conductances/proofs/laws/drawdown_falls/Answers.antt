use Rattle.plan_conductances.proofs.OneWells.{drawdown_falls}
use Rattle.plan_conductances.proofs.laws.drawdown_falls.Goals as goal

pub returns : goal.returns
returns c = drawdown_falls
