use Rattle.gentle_steps.proofs.Held.{held_steps_have_signs}
use Rattle.gentle_steps.proofs.laws.held_steps_have_signs.Goals as goal

pub returns : goal.returns
returns c = held_steps_have_signs
