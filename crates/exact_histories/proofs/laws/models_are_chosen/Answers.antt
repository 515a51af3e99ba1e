use Rattle.exact_histories.proofs.ChosenModels.{models_chosen}
use Rattle.exact_histories.proofs.laws.models_are_chosen.Goals as goal

pub returns : goal.returns
returns c = models_chosen
