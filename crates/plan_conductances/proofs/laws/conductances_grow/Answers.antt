use Rattle.plan_conductances.proofs.Growing.{conductances_grow}
use Rattle.plan_conductances.proofs.laws.conductances_grow.Goals as goal

pub returns : goal.returns
returns c = conductances_grow
