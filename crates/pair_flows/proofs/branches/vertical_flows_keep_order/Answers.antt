use Rattle.pair_flows.proofs.Vertical.{downward_law, upward_law}
use Rattle.pair_flows.proofs.branches.vertical_flows_keep_order.Goals as goal

pub returns-clause-downward : goal.returns-clause-downward
returns-clause-downward c = downward_law

pub returns-clause-upward : goal.returns-clause-upward
returns-clause-upward c = upward_law
