use Rattle.exact_histories.proofs.ChosenHistories.{choices_one}
use Rattle.exact_histories.proofs.laws.choices_have_one_history.Goals as goal

pub returns : goal.returns
returns c = choices_one
