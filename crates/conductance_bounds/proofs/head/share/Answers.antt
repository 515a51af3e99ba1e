use Rattle.conductance_bounds.proofs.Common.{◌≡◌, ◌*◌, refl, arith, pos, ◌*ℤ◌, FitsSigned, to_z, w64, w128, to_z-of_z, to_z_pos, IsNear}
use Rattle.conductance_bounds.proofs.{Blends.share_within, Blends.fits_within, HeadRange.fits_64, HeadRange.fits_128}
use Rattle.conductance_bounds.proofs.head.share.Goals as goal

pub overflow_mul-result : goal.overflow_mul-result
overflow_mul-result c =
    let narrow : FitsSigned w64 c.args.head = fits_64 _ c.requires.head in
    let wide : FitsSigned w128 c.args.head = fits_128 _ c.requires.head in
    let part : to_z w128 c.args.part ≡ pos c.args.part = to_z_pos w128 c.args.part (omega arith) in
    simp (to_z-of_z, part) (fits_within _ (4000000000000000000 * c.args.part) (omega (arith, c.requires.part)) (share_within c.args.head c.args.part c.requires.head))

pub returns : goal.returns
returns c =
    let w : IsNear (c.args.head *ℤ pos c.args.part) (4000000000000000000 * c.args.part) = share_within c.args.head c.args.part c.requires.head in
    let narrow : FitsSigned w64 c.args.head = fits_64 _ c.requires.head in
    let wide : FitsSigned w128 c.args.head = fits_128 _ c.requires.head in
    let part : to_z w128 c.args.part ≡ pos c.args.part = to_z_pos w128 c.args.part (omega arith) in
    let whole : FitsSigned w128 (c.args.head *ℤ pos c.args.part) = fits_within _ (4000000000000000000 * c.args.part) (omega (arith, c.requires.part)) w in
    simp (to_z-of_z, part) (record { value = refl; range = w })
