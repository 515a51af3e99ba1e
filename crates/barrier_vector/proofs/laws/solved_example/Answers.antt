use Rattle.cell_balance.proofs.ExampleMet.{example_is_comparable}
use Rattle.barrier_vector.proofs.laws.solved_example.Goals as goal

pub returns : goal.returns
returns c = let met = example_is_comparable in record { problem = met.problem; encloses = met.encloses; some = met.some; solves = met.solves }
