use Rattle.gentle_check.proofs.Signs.{signs_are_shown}
use Rattle.gentle_check.proofs.laws.signs_are_shown.Goals as goal

pub returns : goal.returns
returns c = signs_are_shown
