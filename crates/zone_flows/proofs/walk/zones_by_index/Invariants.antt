use Rattle.zone_flows.proofs.Common.{◌≡◌, map, take, slice_index, Entries}
use Rattle.zone_flows.proofs.walk.zones_by_index.Given as goal

abbrev pub invariant-loop-c : goal.invariant-loop-c
invariant-loop-c l = l.own.items ≡ map (λ (e : Entries). slice_index l.fn.zones e.id) (take l.c l.fn.p)
