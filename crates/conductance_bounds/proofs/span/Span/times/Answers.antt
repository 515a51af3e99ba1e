use Rattle.conductance_bounds.proofs.Arithmetic.{spans_are_operands, product_bounds, product_ordered, product_reach}
use Rattle.conductance_bounds.proofs.span.Span.times.Goals as goal

pub mul_dn-requires : goal.mul_dn-requires
mul_dn-requires c = record { operands = (spans_are_operands c.args.self c.args.other c.requires.first c.requires.second c.requires.near).0 }

pub mul_up-requires : goal.mul_up-requires
mul_up-requires c = record { operands = (spans_are_operands c.args.self c.args.other c.requires.first c.requires.second c.requires.near).1 }

pub returns-clause-ordered : goal.returns-clause-ordered
returns-clause-ordered c = product_ordered c.args.self c.args.other _ c.requires.first c.requires.second c.mul_dn.ensures.nearest c.mul_up.ensures.nearest

pub returns-clause-reach : goal.returns-clause-reach
returns-clause-reach c = product_reach c.args.self c.args.other _ c.mul_dn.ensures.exponent c.mul_up.ensures.exponent

pub returns-clause-bounds : goal.returns-clause-bounds
returns-clause-bounds c = λ t u p q. product_bounds t u c.args.self c.args.other _ p q c.mul_dn.ensures.nearest c.mul_up.ensures.nearest
