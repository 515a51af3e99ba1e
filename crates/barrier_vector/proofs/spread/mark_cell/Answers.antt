use Rattle.barrier_vector.specs.{mark_at}
use Rattle.barrier_vector.proofs.Spreading.{spread_marks, spread_marked, none_by, some_by}
use Rattle.barrier_vector.proofs.spread.mark_cell.Goals as goal

pub returns-in_ok-push : goal.returns-in_ok-push
returns-in_ok-push c = spread_marks c.args.marks.now c.args.next.now.items c.push.new.self.items c.args.cell c.args.mark c.in_ok-push.ensures.items c.requires
    (none_by (mark_at c.args.marks.now c.args.cell) c.is_none.result c.is_none.ensures c.if-is_none.true)

pub returns-else-is_none : goal.returns-else-is_none
returns-else-is_none c = let (m, is) = some_by (mark_at c.args.marks.now c.args.cell) c.is_none.result c.is_none.ensures c.if-is_none.false in spread_marked
    c.args.marks.now c.args.next.now.items c.args.cell c.args.mark m is
