use Rattle.settle_driver.proofs.Common.{rules, arith, ◌<◌, length, FitsSigned, w64, to_z-of_z}
use Rattle.settle_driver.proofs.Turning.{relaxed_set, still_set}
use Rattle.settle_driver.proofs.sweep.relax_cell.Goals as goal

pub returns-clause-relaxed : goal.returns-clause-relaxed
returns-clause-relaxed c =
    let fits_low : FitsSigned w64 c.relax_in.result = search rules in
    let fits_high : FitsSigned w64 c.relax_in-2.result = search rules in
    let here : c.args.cell < length c.args.words.now = omega (arith, c.requires.index, c.requires.words.whole) in
    simp to_z-of_z (relaxed_set c.args.p.now c.args.words.now c.args.cell c.relax_in.result c.relax_in-2.result here c.relax_in.ensures.relaxed c.relax_in-2.ensures.relaxed)

pub returns-clause-still : goal.returns-clause-still
returns-clause-still c =
    let fits_low : FitsSigned w64 c.relax_in.result = search rules in
    let fits_high : FitsSigned w64 c.relax_in-2.result = search rules in
    let is = simp to_z-of_z at c.ne-moved.ensures in
    simp to_z-of_z (still_set c.args.words.now c.args.cell c.relax_in.result c.relax_in-2.result _ c.ne-moved.result is)
