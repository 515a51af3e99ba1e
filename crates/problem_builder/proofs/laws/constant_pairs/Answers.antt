use Rattle.problem_builder.proofs.BoundsOf.{pair_fits, pair_encloses}
use Rattle.problem_builder.proofs.laws.constant_pairs.Goals as goal

pub returns : goal.returns
returns c = record { fit = pair_fits; encloses = pair_encloses }
