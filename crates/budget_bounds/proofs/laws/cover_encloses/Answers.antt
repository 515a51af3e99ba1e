use Rattle.budget_bounds.proofs.Enclosed.{cover_encloses}
use Rattle.budget_bounds.proofs.laws.cover_encloses.Goals as goal

pub returns : goal.returns
returns c = cover_encloses
