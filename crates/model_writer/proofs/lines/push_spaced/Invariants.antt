use Rattle.model_writer.proofs.Common.{◌≡◌, ◌++◌, take, spaced_words}
use Rattle.model_writer.proofs.lines.push_spaced.Given as goal

abbrev pub invariant-loop-value : goal.invariant-loop-value
invariant-loop-value g l = l.bytes.items ≡ l.fn.bytes.items ++ spaced_words g.T.Word.word (take l.value-index l.values)
