use Rattle.deck_span.proofs.HullsEnclose.{hull_encloses}
use Rattle.deck_span.proofs.laws.hulls_enclose.Goals as goal

pub returns : goal.returns
returns c = hull_encloses
