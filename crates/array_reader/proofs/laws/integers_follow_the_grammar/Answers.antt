use Rattle.array_reader.proofs.NumberLemmas.{integers_are}
use Rattle.array_reader.proofs.laws.integers_follow_the_grammar.Goals as goal

pub returns : goal.returns
returns c = integers_are
