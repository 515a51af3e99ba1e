use Rattle.model_writer.proofs.Common.{◌≡◌, ◌++◌, flat_map, range_with_len, text, lpf_arrays}
use Rattle.model_writer.proofs.flow.push_all_properties.Given as goal

abbrev pub invariant-loop-layer : goal.invariant-loop-layer
invariant-loop-layer l = l.bytes.items ≡ l.fn.bytes.items ++ text (flat_map (lpf_arrays l.model) (range_with_len 0 l.layer))
