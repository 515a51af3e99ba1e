use Rattle.gentle_heads.proofs.Between.{all_between_are_gentle}
use Rattle.gentle_heads.proofs.laws.all_between_are_gentle.Goals as goal

pub returns : goal.returns
returns c = all_between_are_gentle
