use Rattle.conductance_bounds.proofs.Common.{◌≡◌, ◌^◌, ◌*◌, arith, FitsSigned, w64, w128, int_min, int_max, to_z-of_z, blend, IsNear, given_pair, ceiling_of, head_floor_of}
use Rattle.conductance_bounds.proofs.{Blends.fits_within, Blends.min_within, Blends.max_within, Blends.lesser, Blends.greater, GivenHeads.given_is, GivenHeads.head_encloses, HeadRange.fits_64}
use Rattle.conductance_bounds.proofs.{Units.pair_of}
use Rattle.conductance_bounds.proofs.head.given_head.Goals as goal

pub head_floor-requires : goal.head_floor-requires
head_floor-requires c =
    let f : FitsSigned w128 c.blend.result = fits_within _ (4 * 10 ^ 36) (omega arith) c.blend.ensures.range in
    let g : FitsSigned w128 c.blend-2.result = fits_within _ (4 * 10 ^ 36) (omega arith) c.blend-2.ensures.range in
    let e : c.min-low.result ≡ int_min c.blend.result c.blend-2.result = simp to_z-of_z at c.min-low.ensures.value in
    let w : IsNear c.min-low.result (4 * 10 ^ 36) = min_within c.blend.result c.blend-2.result c.min-low.result (4 * 10 ^ 36) e c.blend.ensures.range c.blend-2.ensures.range in
    let h : FitsSigned w128 c.min-low.result = fits_within _ (4 * 10 ^ 36) (omega arith) w in
    record { range = simp to_z-of_z w }

pub head_ceiling-requires : goal.head_ceiling-requires
head_ceiling-requires c =
    let f : FitsSigned w128 c.blend-3.result = fits_within _ (4 * 10 ^ 36) (omega arith) c.blend-3.ensures.range in
    let g : FitsSigned w128 c.blend-4.result = fits_within _ (4 * 10 ^ 36) (omega arith) c.blend-4.ensures.range in
    let e : c.max-high.result ≡ int_max c.blend-3.result c.blend-4.result = simp to_z-of_z at c.max-high.ensures.value in
    let w : IsNear c.max-high.result (4 * 10 ^ 36) = max_within c.blend-3.result c.blend-4.result c.max-high.result (4 * 10 ^ 36) e c.blend-3.ensures.range c.blend-4.ensures.range in
    let h : FitsSigned w128 c.max-high.result = fits_within _ (4 * 10 ^ 36) (omega arith) w in
    record { range = simp to_z-of_z w }

pub returns-clause-rounded : goal.returns-clause-rounded
returns-clause-rounded c =
    let a : FitsSigned w64 c.head_bounds-start.result.lo = fits_64 _ c.head_bounds-start.ensures.range.0 in
    let b : FitsSigned w64 c.head_bounds-end.result.lo = fits_64 _ c.head_bounds-end.ensures.range.0 in
    let a' : FitsSigned w64 c.head_bounds-start.result.hi = fits_64 _ c.head_bounds-start.ensures.range.1 in
    let b' : FitsSigned w64 c.head_bounds-end.result.hi = fits_64 _ c.head_bounds-end.ensures.range.1 in
    let f : FitsSigned w128 c.blend.result = fits_within _ (4 * 10 ^ 36) (omega arith) c.blend.ensures.range in
    let g : FitsSigned w128 c.blend-2.result = fits_within _ (4 * 10 ^ 36) (omega arith) c.blend-2.ensures.range in
    let f' : FitsSigned w128 c.blend-3.result = fits_within _ (4 * 10 ^ 36) (omega arith) c.blend-3.ensures.range in
    let g' : FitsSigned w128 c.blend-4.result = fits_within _ (4 * 10 ^ 36) (omega arith) c.blend-4.ensures.range in
    let e : c.min-low.result ≡ int_min c.blend.result c.blend-2.result = simp to_z-of_z at c.min-low.ensures.value in
    let e' : c.max-high.result ≡ int_max c.blend-3.result c.blend-4.result = simp to_z-of_z at c.max-high.ensures.value in
    let h : FitsSigned w128 c.min-low.result =
    fits_within _ (4 * 10 ^ 36) (omega arith)
    (min_within c.blend.result c.blend-2.result c.min-low.result (4 * 10 ^ 36) e c.blend.ensures.range c.blend-2.ensures.range) in
    let h' : FitsSigned w128 c.max-high.result =
    fits_within _ (4 * 10 ^ 36) (omega arith)
    (max_within c.blend-3.result c.blend-4.result c.max-high.result (4 * 10 ^ 36) e' c.blend-3.ensures.range c.blend-4.ensures.range) in
    let p : c.blend.result ≡ blend c.head_bounds-start.result.lo c.head_bounds-end.result.lo c.args.part.lo = simp to_z-of_z at c.blend.ensures.value in
    let q : c.blend-2.result ≡ blend c.head_bounds-start.result.lo c.head_bounds-end.result.lo c.args.part.hi = simp to_z-of_z at c.blend-2.ensures.value in
    let p' : c.blend-3.result ≡ blend c.head_bounds-start.result.hi c.head_bounds-end.result.hi c.args.part.lo = simp to_z-of_z at c.blend-3.ensures.value in
    let q' : c.blend-4.result ≡ blend c.head_bounds-start.result.hi c.head_bounds-end.result.hi c.args.part.hi = simp to_z-of_z at c.blend-4.ensures.value in
    let k : FitsSigned w64 c.head_floor.result = fits_64 _ c.head_floor.ensures.range in
    let k' : FitsSigned w64 c.head_ceiling.result = fits_64 _ c.head_ceiling.ensures.range in
    let low : c.head_floor.result ≡ head_floor_of c.min-low.result = simp to_z-of_z at c.head_floor.ensures.floor in
    let high : c.head_ceiling.result ≡ ceiling_of c.max-high.result = simp to_z-of_z at c.head_ceiling.ensures.ceiling in
    let pair : pair_of c.head_floor.result c.head_ceiling.result ≡ given_pair c.args.shead c.args.ehead c.args.part =
    given_is c.args.shead c.args.ehead c.args.part c.head_bounds-start.result c.head_bounds-end.result c.head_floor.result c.head_ceiling.result
    c.head_bounds-start.ensures.rounded c.head_bounds-end.ensures.rounded
    (lesser _ _ c.blend.result c.blend-2.result c.min-low.result c.head_floor.result c.args.part.lo c.args.part.hi p q e low)
    (greater _ _ c.blend-3.result c.blend-4.result c.max-high.result c.head_ceiling.result c.args.part.lo c.args.part.hi p' q' e' high) in
    simp to_z-of_z pair

pub returns-clause-encloses : goal.returns-clause-encloses
returns-clause-encloses c = λ x f p q h. head_encloses c.args.shead c.args.ehead c.args.part _ (returns-clause-rounded c) x f p q h
