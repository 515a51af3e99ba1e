use Rattle.deck_problems.proofs.Starting.{starts_are_one, starts_fit_decks, starts_enclose_all}
use Rattle.deck_problems.proofs.laws.start_heads.Goals as goal

pub returns : goal.returns
returns c = record { one = starts_are_one; fit = starts_fit_decks; enclose = starts_enclose_all }
