use Rattle.water_conductances.proofs.FacePairs.{pairs_enclose}
use Rattle.water_conductances.proofs.laws.pairs_enclose.Goals as goal

pub returns : goal.returns
returns c = pairs_enclose
