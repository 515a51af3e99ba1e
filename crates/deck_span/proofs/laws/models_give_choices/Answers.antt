use Rattle.deck_span.proofs.OwnChoices.{models_give, models_solve}
use Rattle.deck_span.proofs.laws.models_give_choices.Goals as goal

pub returns : goal.returns
returns c = record { give = models_give; solve = models_solve }
