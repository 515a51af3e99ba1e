use Rattle.head_table.proofs.Common.{List, subst, arith, IfOk, AreOnTheWay, AreNoLooser, slots_items, Entries, barrier_of}
use Rattle.head_table.proofs.Joining.{AtEnd, ends, closes, ok_of_two, ok_under}
use Rattle.head_table.proofs.table.HeadTable.close.Goals as goal

pub read_all-bounds-requires-clause-range : goal.read_all-bounds-requires-clause-range
read_all-bounds-requires-clause-range c = let t = c.args.self in let n = c.len-cells.ensures.count in
    let end = subst (λ (cells : List Entries). AtEnd cells (barrier_of t) (slots_items c.close_with-closed.result.words) c.args.seat.seat.me.0) t.same
    (ends _ _ _ _ _ _ c.args.seat.live c.close_with-closed.ensures.values.2) in
    λ side k h. (end.way side).heads k (omega (arith, h, n))

closed : (c : goal.After-free) → IfOk c.read_all-bounds.result (λ v. AreOnTheWay c.args.self.problem.now (barrier_of c.args.self) v.items ×
    AreNoLooser c.args.self.problem.now c.args.seat.seat.me.0.seen v.items)
closed c = let t = c.args.self in let n = c.len-cells.ensures.count in let e = c.read_all-bounds.ensures in
    let end = subst (λ (cells : List Entries). AtEnd cells (barrier_of t) (slots_items c.close_with-closed.result.words) c.args.seat.seat.me.0) t.same
    (ends _ _ _ _ _ _ c.args.seat.live c.close_with-closed.ensures.values.2) in
    ok_of_two _ _ _ c.read_all-bounds.result e.len e.heads (λ v a b.
    closes t.problem.now (barrier_of t) c.len-cells.ensures.fits _ c.args.seat.seat.me.0 end v.items (omega (arith, v.ok)) (λ side k h.
    b side k (omega arith)))

pub returns-clause-kept : goal.returns-clause-kept
returns-clause-kept c = ok_under _ _ c.read_all-bounds.result (λ v both. both.0) (closed c)

pub returns-clause-tight : goal.returns-clause-tight
returns-clause-tight c = ok_under _ _ c.read_all-bounds.result (λ v both. both.1) (closed c)
