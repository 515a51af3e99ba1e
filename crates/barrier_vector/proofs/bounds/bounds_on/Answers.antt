use Rattle.barrier_vector.proofs.Common.{rules, FitsSigned, w64, to_z-of_z}
use Rattle.barrier_vector.proofs.{Outlining.base_of, Uniques.all_bounds, Uniques.high_bounds}
use Rattle.barrier_vector.proofs.bounds.bounds_on.Goals as goal

pub anchored_bounds-requires-clause-base : goal.anchored_bounds-requires-clause-base
anchored_bounds-requires-clause-base c =
    let fits : FitsSigned w64 c.base-base.result = search rules in
    simp to_z-of_z (base_of c.args.side c.args.p.now c.args.outline.now.mark c.args.outline.now.need c.args.outline.now.anchors.items c.base-base.result c.requires c.base-base.ensures)

pub returns-then-all_anchored : goal.returns-then-all_anchored
returns-then-all_anchored c = all_bounds c.args.side c.args.p.now c.in_ok-anchored.anchored.items c.deref.result.now c.deref.ensures.value
    c.in_ok-anchored.ensures (c.all_anchored.ensures.0 c.if-all_anchored.true)

pub returns-in-High : goal.returns-in-High
returns-in-High c = high_bounds c.args.side c.args.p.now c.in_ok-anchored.anchored.items c.in-High.is c.in_ok-anchored.ensures
