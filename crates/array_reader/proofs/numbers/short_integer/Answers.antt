use Rattle.array_reader.proofs.NumberLemmas.{is_integer}
use Rattle.array_reader.proofs.numbers.short_integer.Goals as goal

pub returns : goal.returns
returns c = is_integer c.args.word.now c.read_int.result c.read_int.ensures.exact
