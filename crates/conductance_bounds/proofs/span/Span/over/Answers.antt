use Rattle.conductance_bounds.proofs.Arithmetic.{cross_operands, positive_above, quotient_bounds, quotient_ordered, quotient_reach}
use Rattle.conductance_bounds.proofs.span.Span.over.Goals as goal

pub div_dn-requires-clause-operands : goal.div_dn-requires-clause-operands
div_dn-requires-clause-operands c = (cross_operands c.args.self c.args.divisor c.requires.first c.requires.second c.requires.near).0

pub div_up-requires-clause-operands : goal.div_up-requires-clause-operands
div_up-requires-clause-operands c = (cross_operands c.args.self c.args.divisor c.requires.first c.requires.second c.requires.near).1

pub div_dn-requires-clause-divisor : goal.div_dn-requires-clause-divisor
div_dn-requires-clause-divisor c = positive_above c.args.divisor.lo c.args.divisor.hi c.requires.second.order c.requires.divisor_positive

pub returns-clause-ordered : goal.returns-clause-ordered
returns-clause-ordered c = quotient_ordered c.args.self c.args.divisor _ c.requires.first c.requires.second c.requires.divisor_positive c.div_dn.ensures.nearest c.div_up.ensures.nearest

pub returns-clause-reach : goal.returns-clause-reach
returns-clause-reach c = quotient_reach c.args.self c.args.divisor _ c.div_dn.ensures.exponent c.div_up.ensures.exponent

pub returns-clause-bounds : goal.returns-clause-bounds
returns-clause-bounds c = λ t u p q. quotient_bounds t u c.args.self c.args.divisor _ p q c.div_dn.ensures.nearest c.div_up.ensures.nearest
