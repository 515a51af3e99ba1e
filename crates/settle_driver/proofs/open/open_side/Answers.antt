use Rattle.settle_driver.proofs.Common.{rules, arith, FitsSigned, w64, ints, to_z-of_z, lower_at, upper_at}
use Rattle.settle_driver.proofs.Phasing.{side_by_tests}
use Rattle.settle_driver.proofs.open.open_side.Goals as goal

pub returns : goal.returns
returns c =
    let fits_low : FitsSigned w64 c.relax_in.result = search rules in
    let fits_high : FitsSigned w64 c.relax_in-2.result = search rules in
    let low = c.requires.words.low c.args.cell c.requires.index in
    let high = c.requires.words.high c.args.cell c.requires.index in
    let fits_lower : FitsSigned w64 (lower_at c.args.words.now c.args.cell) = omega (arith, ints, low.above, low.below) in
    let fits_upper : FitsSigned w64 (upper_at c.args.words.now c.args.cell) = omega (arith, ints, high.above, high.below) in
    let tests = simp to_z-of_z at c.first_side.ensures in
    side_by_tests c.args.p.now c.args.words.now c.args.cell c.relax_in.result c.relax_in-2.result c.first_side.result c.relax_in.ensures.relaxed c.relax_in-2.ensures.relaxed tests
