use Rattle.model_writer.proofs.Common.{◌≡◌, ◌++◌, flat_map, range_with_len, text, dis_item_6}
use Rattle.model_writer.proofs.discretization.push_bottoms.Given as goal

abbrev pub invariant-loop-layer : goal.invariant-loop-layer
invariant-loop-layer l = l.bytes.items ≡ l.fn.bytes.items ++ text (flat_map (dis_item_6 l.grid) (range_with_len 0 l.layer))
