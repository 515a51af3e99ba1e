use Rattle.step_problem.proofs.Common.{ℕ, ◌<◌, entries_at, LinksFit}
use Rattle.step_problem.proofs.fitting.all_links_fit.Given as goal

abbrev pub invariant-loop-c : goal.invariant-loop-c
invariant-loop-c l = (k : ℕ) → k < l.c → LinksFit l.cells k (entries_at l.cells k).links
