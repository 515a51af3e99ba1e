use Rattle.model_writer.proofs.Common.{◌≡◌, ◌++◌, flat_map, range_with_len, array_lines, text, layer_values}
use Rattle.model_writer.proofs.arrays.push_layers.Given as goal

abbrev pub invariant-loop-layer : goal.invariant-loop-layer
invariant-loop-layer g l =
    l.bytes.items ≡ l.fn.bytes.items
    ++ text (flat_map (λ k. array_lines g.T.Word.word l.grid.rows l.grid.cols (layer_values l.grid k l.values)) (range_with_len 0 l.layer))
