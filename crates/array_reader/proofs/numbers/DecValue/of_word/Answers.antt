use Rattle.array_reader.proofs.NumberLemmas.{is_word_number}
use Rattle.array_reader.proofs.numbers.DecValue.of_word.Goals as goal

pub returns-clause-value : goal.returns-clause-value
returns-clause-value c = is_word_number c.args.word.now c.read_dec.result c.read_dec.ensures.exact
