use Rattle.pair_flows.proofs.Ordered.{signs_enclose}
use Rattle.pair_flows.proofs.comparison.signs_enclose.Goals as goal

pub returns : goal.returns
returns c = signs_enclose
