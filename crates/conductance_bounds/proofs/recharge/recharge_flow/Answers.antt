use Rattle.std.proofs.Common.{◌+◌}
use Rattle.conductance_bounds.proofs.{Capped.small_flow_encloses, Recharged.recharge_encloses}
use Rattle.conductance_bounds.proofs.recharge.recharge_flow.Goals as goal

pub returns-clause-rounded : goal.returns-clause-rounded
returns-clause-rounded c = c.flow_of.ensures.bounds _
    (c.times-flow.ensures.bounds _ _ (c.times.ensures.bounds _ _ c.magnitude.ensures.bounds c.exact_span.ensures.bounds) c.exact_span-2.ensures.bounds)

pub returns-clause-encloses : goal.returns-clause-encloses
returns-clause-encloses c = small_flow_encloses _ c.args.rech.neg (c.args.s + 9) _ _ (returns-clause-rounded c) (recharge_encloses c.args.rech c.args.delr c.args.delc (c.args.s + 9))
