use Rattle.conductance_bounds.proofs.Common.{arith, bed_of}
use Rattle.conductance_bounds.proofs.LayerBounds.{bed_bounds}
use Rattle.conductance_bounds.proofs.vertical.joined_resistance.Goals as goal

pub returns-else-bed-eq0-clause-bounds : goal.returns-else-bed-eq0-clause-bounds
returns-else-bed-eq0-clause-bounds c = λ t u h p q. bed_bounds c.args.bed.now.thick_lo.m t (bed_of c.args.bed.now h) u _ (omega (arith, c.if-bed-eq0.false))
    (c.plus-else-bed-eq0-2.ensures.bounds _ _ (c.plus-else-bed-eq0.ensures.bounds _ _ p (c.over-bed.ensures.bounds _ _ (c.span_of.ensures.bounds h) c.exact_span.ensures.bounds)) q)
