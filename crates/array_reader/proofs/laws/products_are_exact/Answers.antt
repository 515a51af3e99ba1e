use Rattle.array_reader.proofs.NumberLemmas.{products_are}
use Rattle.array_reader.proofs.laws.products_are_exact.Goals as goal

pub returns : goal.returns
returns c = products_are
