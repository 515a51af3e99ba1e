use Rattle.array_reader.proofs.Common.{◌≡◌, length, is_word}
use Rattle.std.specs.List.{list_any}
use Rattle.array_reader.proofs.keywords.has_keyword.Given as goal

abbrev pub invariant-loop-word : goal.invariant-loop-word
invariant-loop-word l = list_any (is_word l.keyword) l.words ≡ list_any (is_word l.keyword) l.fn.words

abbrev pub decreases-loop-word : goal.decreases-loop-word
decreases-loop-word l = length l.words
