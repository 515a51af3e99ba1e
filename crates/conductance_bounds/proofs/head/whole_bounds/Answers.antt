use Rattle.conductance_bounds.proofs.Common.{◌≡◌, ℤ, FitsSigned, w64, w128, to_z, to_z-of_z, number, head_pair, of_z}
use Rattle.conductance_bounds.proofs.{HeadRange.fits_wider, HeadRange.no_floor_past, HeadRange.no_ceiling_past, Units.head_pair_is, Units.pair_of}
use Rattle.conductance_bounds.proofs.head.whole_bounds.Goals as goal

pub unreachable-requires : goal.unreachable-requires
unreachable-requires c = no_floor_past (number c.args.x) c.requires.low c.in_default.ensures.past

pub unreachable-requires-in_default-ceil_at : goal.unreachable-requires-in_default-ceil_at
unreachable-requires-in_default-ceil_at c = no_ceiling_past (number c.args.x) c.requires.high c.in_default-ceil_at.ensures.past

-- the cast of a number of 128 bits that fits 64
cast_fits : (z : ℤ) → FitsSigned w64 z → FitsSigned w64 (to_z w128 (of_z w128 z))
cast_fits z h = let wide : FitsSigned w128 z = fits_wider z h in simp to_z-of_z h

pub overflow_cast-result : goal.overflow_cast-result
overflow_cast-result c = cast_fits _ (c.requires.low _ c.in-Some.ensures.floor)

pub overflow_cast-result-2 : goal.overflow_cast-result-2
overflow_cast-result-2 c = cast_fits _ (c.requires.high _ c.in-Some-ceil_at.ensures.ceiling)

pub returns : goal.returns
returns c =
    let g : FitsSigned w64 c.in-Some.low = c.requires.low _ c.in-Some.ensures.floor in
    let f : FitsSigned w128 c.in-Some.low = fits_wider _ g in
    let g' : FitsSigned w64 c.in-Some-ceil_at.high = c.requires.high _ c.in-Some-ceil_at.ensures.ceiling in
    let f' : FitsSigned w128 c.in-Some-ceil_at.high = fits_wider _ g' in
    let pair : pair_of c.in-Some.low c.in-Some-ceil_at.high ≡ head_pair c.args.x =
    head_pair_is c.args.x c.in-Some.low c.in-Some-ceil_at.high c.in-Some.ensures.floor c.in-Some-ceil_at.ensures.ceiling in
    record { rounded = simp to_z-of_z pair }
