use Rattle.barrier_vector.proofs.Common.{ap, ◌∙◌, Entries}
use Rattle.barrier_vector.proofs.Spreading.{spread_links}
use Rattle.barrier_vector.proofs.spread.spread.Goals as goal

pub loop-c-preserved : goal.loop-c-preserved
loop-c-preserved c = spread_links c.args.p.now c.args.frontier.now c.loop-c.c-index c.deref.result.now c.args.mark c.args.marks.now c.loop-c.marks
    c.spread_from.new.marks _ c.loop-c.next.items c.spread_from.new.next.items
    (c.deref.ensures.value ∙ ap (λ (e : Entries). e.links) (c.behind-p.view_is ∙ c.cell.ensures)) c.loop-c.invariant c.in_ok-spread_from.ensures
