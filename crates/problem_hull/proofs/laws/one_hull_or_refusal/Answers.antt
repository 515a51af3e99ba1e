use Rattle.problem_hull.proofs.{OneHull.hull_of_one, Refusals.hull_excludes}
use Rattle.problem_hull.proofs.laws.one_hull_or_refusal.Goals as goal

pub returns : goal.returns
returns c = record { itself = hull_of_one; excludes = hull_excludes }
