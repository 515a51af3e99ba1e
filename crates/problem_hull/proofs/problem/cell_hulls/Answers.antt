use Rattle.problem_hull.proofs.Common.{◌<◌, arith, length, refl, cell_hull, cell_shape, entries_at, get_or_default}
use Rattle.std.proofs.lemmas.Result.{err_from_is_err_and}
use Rattle.problem_hull.proofs.Hulls.{hull_more, unlike_cells}
use Rattle.problem_hull.proofs.problem.cell_hulls.Goals as goal

pub loop-i-preserved : goal.loop-i-preserved
loop-i-preserved c =
    let p = c.args.p.now in
    let q = c.args.q.now in
    let i = c.loop-i.i in
    let lt : i < length p = omega arith in
    let below : i < length q = omega arith in
    rw c.in_ok-push.ensures.items (hull_more cell_shape cell_hull p q c.loop-i.cells.items i (entries_at p i) (entries_at q i) c.in_ok-cell.cell lt below
    (get_or_default p i _ _ lt) (get_or_default q i _ _ below)
    c.loop-i.invariant (rw (c.cell.ensures, c.cell-in-loop-i.ensures) at c.in_ok-cell.ensures.hull))

pub returns-in_err-cell-clause-fault : goal.returns-in_err-cell-clause-fault
returns-in_err-cell-clause-fault c =
    let below : c.loop-i.i < length c.args.p.now = omega arith in
    let in_second : c.loop-i.i < length c.args.q.now = omega arith in
    let p = err_from_is_err_and c.from_residual.result c.from_residual.ensures.1 in
    rw (p.1, p.2) (unlike_cells c.args.p.now c.args.q.now c.loop-i.i c.in_err-cell.field-0.0 below in_second (rw (c.cell.ensures, c.cell-in-loop-i.ensures) at c.in_err-cell.ensures.fault))
