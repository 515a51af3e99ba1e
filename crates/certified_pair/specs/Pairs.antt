-- The order of a pair.
use Rattle.std.specs.Prelude.{List, All, ◌≤ℤ◌}
use Rattle.step_problem.specs.declared.heads.Bound.{Bound}

-- each lower head is at most the upper one
abbrev pub AreOrdered : List Bound → Type 0
AreOrdered bounds = All (λ bound. bound.low ≤ℤ bound.high) bounds
