use Rattle.engine.proofs.Stating.{same_deck}
use Rattle.engine.proofs.laws.same_deck_has_same_model.Goals as goal

pub returns : goal.returns
returns c = same_deck
