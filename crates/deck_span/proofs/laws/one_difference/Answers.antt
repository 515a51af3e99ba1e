use Rattle.deck_span.proofs.OneDifference.{difference_one}
use Rattle.deck_span.proofs.laws.one_difference.Goals as goal

pub returns : goal.returns
returns c = difference_one
