use Rattle.std.proofs.Common.{◌≡◌, ◌++◌}
use Rattle.model_writer.proofs.Texts.{repeated_words}
use Rattle.model_writer.proofs.flow.push_repeated.Given as goal

abbrev pub invariant-loop : goal.invariant-loop
invariant-loop l = l.bytes.items ≡ l.fn.bytes.items ++ repeated_words l.counter l.word
