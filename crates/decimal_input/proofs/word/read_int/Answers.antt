use Rattle.decimal_input.proofs.Spelled.{integer_exactly}
use Rattle.decimal_input.proofs.word.read_int.Goals as goal

pub returns : goal.returns
returns c = record { exact = integer_exactly c.args.word.now c.integer.result c.integer.ensures.value }
