use Rattle.deck_span.specs.{comparing_order}
use Rattle.deck_span.proofs.AlikeParts.{alike_shares_each, shared_alike}
use Rattle.deck_span.proofs.laws.shared_packages_are_alike.Goals as goal

pub returns : goal.returns
returns c = λ a b. (shared_alike a b, alike_shares_each a b comparing_order)
