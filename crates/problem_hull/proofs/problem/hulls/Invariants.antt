use Rattle.problem_hull.proofs.Common.{map, take, zip_with, IsHullOf}
use Rattle.problem_hull.proofs.problem.hulls.Given as goal

abbrev pub invariant-loop-i : goal.invariant-loop-i
invariant-loop-i g l = IsHullOf (map g.E.Bounded.shape) (zip_with g.E.Bounded.hull_of) (take l.i l.a) (take l.i l.b) l.hulls.items
