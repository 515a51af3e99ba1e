use Rattle.array_reader.proofs.NumberLemmas.{is_product}
use Rattle.array_reader.proofs.numbers.real_product.Goals as goal

pub returns : goal.returns
returns c = is_product c.args.a c.args.b c.times.result c.times.ensures.exact
