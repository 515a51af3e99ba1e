use Rattle.zone_flows.proofs.Common.{take, flat_map, entries_at, Gains, from_to}
use Rattle.zone_flows.proofs.faces.add_links.Given as goal

abbrev pub invariant-loop-x : goal.invariant-loop-x
invariant-loop-x l = Gains l.fn.table.map l.table.map (flat_map (λ x. from_to l.walk l.fn.id (entries_at l.walk.problem.now x.cell).id x.lo x.hi) (take l.x-index l.links))
