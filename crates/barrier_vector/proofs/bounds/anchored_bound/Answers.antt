use Rattle.barrier_vector.proofs.Common.{rules, FitsSigned, w64, to_z-of_z, sym, subst, IsHead}
use Rattle.barrier_vector.proofs.{Marking.base_head, Uniques.bound_anchored}
use Rattle.barrier_vector.proofs.bounds.anchored_bound.Goals as goal

pub move_out-requires : goal.move_out-requires
move_out-requires c =
    let base_fits : FitsSigned w64 c.args.base = c.ranges.base in
    simp to_z-of_z (subst IsHead (sym c.requires.base) (base_head c.args.side c.args.p.now c.recall_conditions.ensures.fits))

pub returns-in-Some : goal.returns-in-Some
returns-in-Some c =
    let fits : FitsSigned w64 c.move_out.result = search rules in
    let base_fits : FitsSigned w64 c.args.base = c.ranges.base in
    simp to_z-of_z (bound_anchored c.args.side c.args.p.now c.recall_conditions.ensures.fits c.args.base c.requires.base c.args.levels.now c.args.paths.now
    c.requires.paths c.args.c c.in-Some.field-0 c.move_out.result c.in-Some.is (simp to_z-of_z at c.move_out.ensures))

pub returns-in-None : goal.returns-in-None
returns-in-None c = c.requires.paths.unanchored c.args.c c.requires.cell c.in-None.is
