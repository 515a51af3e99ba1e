use Rattle.model_writer.proofs.Common.{◌≡◌, ◌++◌, flat_map, take, packages, has, chosen_bytes, part_bytes}
use Rattle.model_writer.proofs.deck_text.push_parts.Given as goal

abbrev pub invariant-loop-kind : goal.invariant-loop-kind
invariant-loop-kind l = l.text.items ≡ l.fn.text.items ++ flat_map (chosen_bytes (has l.model) (part_bytes l.model l.named)) (take l.kind-index packages)
