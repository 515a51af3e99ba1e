use Rattle.deck_problems.proofs.Enclosing.{pair_is_one, pair_fits, pair_encloses}
use Rattle.deck_problems.proofs.laws.constant_pairs.Goals as goal

pub returns : goal.returns
returns c = record { one = pair_is_one; fit = pair_fits; encloses = pair_encloses }
