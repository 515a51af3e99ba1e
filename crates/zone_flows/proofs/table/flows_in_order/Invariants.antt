use Rattle.zone_flows.proofs.Common.{◌≡◌, All, IsZoneSum, each_or_first, flow_or_refusal, values_of}
use Rattle.zone_flows.proofs.ListedFlows.{with_front}
use Rattle.zone_flows.proofs.table.flows_in_order.Given as goal

abbrev pub invariant-loop-key : goal.invariant-loop-key
invariant-loop-key l = record {
  so_far : with_front (λ e. flow_or_refusal e.0 e.1) l.flows.items l.key-iterator ≡ each_or_first (λ e. flow_or_refusal e.0 e.1) l.table.map.entries;
  sums : All IsZoneSum (values_of l.key-iterator);
}
