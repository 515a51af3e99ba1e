use Rattle.std.proofs.Common.{◌≡◌, ◌++◌, map, drop}
use Rattle.std.specs.String.{string_bytes}
use Rattle.heads.proofs.as_texts.Given as goal

abbrev pub invariant-loop-word : goal.invariant-loop-word
invariant-loop-word l = map (λ t. t.now) l.texts.items ++ map string_bytes (drop l.word-index l.fn.words) ≡ map string_bytes l.fn.words
