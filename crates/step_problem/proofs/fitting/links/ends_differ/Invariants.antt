use Rattle.step_problem.proofs.Common.{◌≡◌, ℕ, ◌<◌, link_at}
use Rattle.step_problem.proofs.fitting.links.ends_differ.Given as goal

abbrev pub invariant-loop-j : goal.invariant-loop-j
invariant-loop-j l = (b : ℕ) → b < l.j → (a : ℕ) → a < b → (link_at l.links a).cell ≡ (link_at l.links b).cell → ⊥
