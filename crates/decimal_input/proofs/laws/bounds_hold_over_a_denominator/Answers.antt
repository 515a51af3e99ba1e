use Rattle.decimal_input.proofs.FloorLaws.{whole_signed}
use Rattle.decimal_input.proofs.laws.bounds_hold_over_a_denominator.Goals as goal

pub returns : goal.returns
returns c = whole_signed
