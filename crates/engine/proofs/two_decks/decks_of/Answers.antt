use Rattle.std.proofs.Common.{refl}
use Rattle.engine.proofs.two_decks.decks_of.Goals as goal

pub returns-in-None-clause-alike : goal.returns-in-None-clause-alike
returns-in-None-clause-alike c = (refl, c.in-None.ensures.alike)

pub returns-in-Some-clause-unlike : goal.returns-in-Some-clause-unlike
returns-in-Some-clause-unlike c = (c.in-Some.difference, c.in-Some.ensures.first, c.in-Some.ensures.unlike, c.unlike-fault.ensures)
