use Rattle.conductance_bounds.proofs.Arithmetic.{spans_are_operands, sum_bounds, sum_ordered, sum_reach}
use Rattle.conductance_bounds.proofs.span.Span.plus.Goals as goal

pub add_dn-requires : goal.add_dn-requires
add_dn-requires c = record { operands = (spans_are_operands c.args.self c.args.other c.requires.first c.requires.second c.requires.near).0 }

pub add_up-requires : goal.add_up-requires
add_up-requires c = record { operands = (spans_are_operands c.args.self c.args.other c.requires.first c.requires.second c.requires.near).1 }

pub returns-clause-ordered : goal.returns-clause-ordered
returns-clause-ordered c = sum_ordered c.args.self c.args.other _ c.requires.first c.requires.second c.add_dn.ensures.nearest c.add_up.ensures.nearest

pub returns-clause-reach : goal.returns-clause-reach
returns-clause-reach c = sum_reach c.args.self c.args.other _ c.add_dn.ensures.exponent c.add_up.ensures.exponent

pub returns-clause-bounds : goal.returns-clause-bounds
returns-clause-bounds c = λ t u p q. sum_bounds t u c.args.self c.args.other _ p q c.add_dn.ensures.nearest c.add_up.ensures.nearest
