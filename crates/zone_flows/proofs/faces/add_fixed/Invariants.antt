use Rattle.zone_flows.proofs.Common.{take, flat_map, Gains, kind_faces}
use Rattle.zone_flows.proofs.faces.add_fixed.Given as goal

abbrev pub invariant-loop-x : goal.invariant-loop-x
invariant-loop-x l = Gains l.fn.table.map l.table.map (flat_map (λ x. kind_faces l.walk x.kind l.fn.id x.source x.lo x.hi) (take l.x-index l.fixed))
