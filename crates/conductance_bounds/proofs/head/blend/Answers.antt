use Rattle.conductance_bounds.proofs.Common.{◌≡◌, ◌^◌, ◌-◌, arith, pos, ℤ, ◌+ℤ◌, ◌*ℤ◌, FitsSigned, ap, ◌∙◌, w64, w128, ints, to_z-of_z, blend}
use Rattle.conductance_bounds.proofs.HeadRange.{fits_64}
use Rattle.conductance_bounds.proofs.head.blend.Goals as goal

pub returns-clause-value : goal.returns-clause-value
returns-clause-value c =
    let first : FitsSigned w128 c.share.result = omega (arith, ints, c.share.ensures.range.above, c.share.ensures.range.below, c.requires.part) in
    let second : FitsSigned w128 c.share-2.result = omega (arith, ints, c.share-2.ensures.range.above, c.share-2.ensures.range.below, c.requires.part) in
    let both : FitsSigned w128 (c.share.result +ℤ c.share-2.result) =
    omega (
      arith,
      ints,
      c.share.ensures.range.above,
      c.share.ensures.range.below,
      c.share-2.ensures.range.above,
      c.share-2.ensures.range.below,
      c.requires.part,
    ) in
    let start : FitsSigned w64 c.args.start = fits_64 _ c.requires.start in
    let end : FitsSigned w64 c.args.end = fits_64 _ c.requires.end in
    let p : c.share.result ≡ c.args.start *ℤ pos (10 ^ 18 - c.args.part) = simp to_z-of_z at c.share.ensures.value in
    let q : c.share-2.result ≡ c.args.end *ℤ pos c.args.part = simp to_z-of_z at c.share-2.ensures.value in
    let e : c.share.result +ℤ c.share-2.result ≡ blend c.args.start c.args.end c.args.part =
    ap (λ (z : ℤ). z +ℤ c.share-2.result) p ∙ ap (λ (z : ℤ). c.args.start *ℤ pos (10 ^ 18 - c.args.part) +ℤ z) q in
    simp to_z-of_z e
