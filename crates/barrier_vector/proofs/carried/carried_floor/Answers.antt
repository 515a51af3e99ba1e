use Rattle.barrier_vector.proofs.Common.{◌≤◌, arith, length, rules, slice_index, slice_index_or, FitsSigned, w64, to_z-of_z, Low, path_limit, sym, subst, IsHead, has_label, longest_at}
use Rattle.barrier_vector.proofs.{Spreading.no_both, Rooting.capped_within, Marking.base_head, Carrying.floor_carried, Carrying.floor_none, Gathering.not_positive, Gathering.greatest_within}
use Rattle.barrier_vector.proofs.carried.carried_floor.Goals as goal

pub overflow_add-inner : goal.overflow_add-inner
overflow_add-inner c =
    let (s, path, cut) = c.requires.components.inner_paths c.args.c c.requires.cell in
    let own : slice_index_or c.args.inner.now c.args.c 0 ≤ path_limit = capped_within _ s cut in
    let all = greatest_within (length c.args.p.now) (has_label c.args.labels.now c.in-Some.m) (slice_index c.args.inner.now) path_limit (λ k h.
    let (s, path, cut) = c.requires.components.inner_paths k h in capped_within (slice_index c.args.inner.now k) s cut) in
    let top : longest_at c.args.totals.now c.in-Some.m ≤ path_limit = omega (arith, c.requires.components.tops c.in-Some.m, all) in
    omega (arith, own, top)

pub move_out-requires : goal.move_out-requires
move_out-requires c = let base_fits : FitsSigned w64 c.args.base = c.ranges.base in simp to_z-of_z (subst IsHead (sym c.requires.base) (base_head Low c.args.p.now c.recall_conditions.ensures.fits))

pub returns-then-is_positive : goal.returns-then-is_positive
returns-then-is_positive c =
    let fits : FitsSigned w64 c.move_out.result = search rules in
    let base_fits : FitsSigned w64 c.args.base = c.ranges.base in
    let positive = c.is_positive.ensures.0 c.if-is_positive.true in
    simp to_z-of_z (floor_carried c.args.p.now c.recall_conditions.ensures.fits c.args.labels.now c.args.inner.now c.args.totals.now c.requires.components
    c.args.base c.requires.base c.args.c c.in-Some.m c.move_out.result c.requires.cell c.requires.unanchored c.in-Some.is positive
    (simp to_z-of_z at c.move_out.ensures))

pub returns-else-is_positive : goal.returns-else-is_positive
returns-else-is_positive c =
    let empty = not_positive c.is_positive.result _ c.is_positive.ensures.1 c.if-is_positive.false in
    floor_none c.args.p.now c.recall_conditions.ensures.fits c.args.labels.now c.args.inner.now c.args.totals.now c.requires.components c.args.c c.in-Some.m
    c.requires.cell c.requires.unanchored c.in-Some.is empty

pub returns-in-None : goal.returns-in-None
returns-in-None c = let (m, e) = c.requires.components.labelling.all c.args.c c.requires.cell in absurd (no_both _ m c.in-None.is e)
