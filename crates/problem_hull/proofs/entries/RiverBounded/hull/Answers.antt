use Rattle.std.proofs.Common.{refl, rules}
use Rattle.problem_hull.proofs.entries.RiverBounded.hull.Goals as goal

pub returns : goal.returns
returns c = record { alike = refl; is = search rules }
