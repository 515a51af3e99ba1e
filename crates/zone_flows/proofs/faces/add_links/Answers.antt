use Rattle.zone_flows.proofs.Common.{Link, no_link, entries_at, from_to}
use Rattle.zone_flows.proofs.Tables.{one_more}
use Rattle.zone_flows.proofs.faces.add_links.Goals as goal

pub loop-x-preserved : goal.loop-x-preserved
loop-x-preserved c =
    let w = c.args.walk.now in
    one_more (λ (x : Link). from_to w c.args.id (entries_at w.problem.now x.cell).id x.lo x.hi) c.args.links.now c.loop-x.x-index c.args.table.now.map
    c.loop-x.table.map c.loop-x.invariant no_link _ c.loop-x-test.true c.in_ok-add_link.ensures
