use Rattle.listing_io.proofs.Common.{◌≡◌, drop, for_each, with_front, flow_at}
use Rattle.listing_io.proofs.step_reader.read_flows.Given as goal

abbrev pub invariant-loop-pair : goal.invariant-loop-pair
invariant-loop-pair l = with_front l.flows.items (for_each (flow_at l.fn.s) (drop l.pair-index l.pairs) l.lines) ≡ for_each (flow_at l.fn.s) l.pairs l.fn.lines
