-- What storage is made of: thicknesses and multipliers.
use Rattle.problem_builder.proofs.Common.{◌≡◌, Bool, true, false, cond, Some, None, refl, Ratio, Span, thickness_of, Within, AreThick}
use Rattle.conductance_bounds.specs.{IsThickness}

-- the thickness that counts for storage
pub thick_case : (b : Bool) (t : Span) (f : Ratio) → thickness_of (cond b None (Some (t.lo, t.hi))) f ≡ cond b None (Some (Within t.lo t.hi f))
thick_case true t f = refl
thick_case false t f = refl

pub usable_case : (b : Bool) (t : Span) → AreThick t.lo t.hi → IsThickness (cond b None (Some (t.lo, t.hi)))
usable_case true t h = tt
usable_case false t h = h
