use Rattle.conductance_bounds.proofs.Common.{number, subst, sym, HeadPair, IsSignedCeiling, IsSignedFloor}
use Rattle.conductance_bounds.proofs.{HeadRange.ceiling_in_range, HeadRange.fits_64, HeadRange.floor_in_range, Units.head_ceiling, Units.head_floor}
use Rattle.conductance_bounds.proofs.head.head_bounds.Goals as goal

pub whole_bounds-requires-clause-low : goal.whole_bounds-requires-clause-low
whole_bounds-requires-clause-low c = λ z h. fits_64 z (floor_in_range (number c.args.head) z c.requires.head.range h)

pub whole_bounds-requires-clause-high : goal.whole_bounds-requires-clause-high
whole_bounds-requires-clause-high c = λ z h. fits_64 z (ceiling_in_range (number c.args.head) z c.requires.head.range h)

pub returns-clause-range : goal.returns-clause-range
returns-clause-range c =
    let pair = sym c.whole_bounds.ensures.rounded in (
      floor_in_range (number c.args.head) _ c.requires.head.range (subst (λ (p : HeadPair). IsSignedFloor p.lo (number c.args.head) 9) pair (head_floor c.args.head)),
      ceiling_in_range (number c.args.head) _ c.requires.head.range (subst (λ (p : HeadPair). IsSignedCeiling p.hi (number c.args.head) 9) pair (head_ceiling c.args.head)),
    )
