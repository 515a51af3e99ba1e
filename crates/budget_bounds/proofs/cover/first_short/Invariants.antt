use Rattle.budget_bounds.proofs.Common.{◌<◌, Term, ReachesAsFar, place_of, bounds_in}
use Rattle.budget_bounds.proofs.cover.first_short.Given as goal

abbrev pub invariant-loop-place : goal.invariant-loop-place
invariant-loop-place l = (x : Term) → place_of x < l.place → ReachesAsFar (bounds_in l.listed l.fn.dir x) (bounds_in l.computed l.fn.dir x)
