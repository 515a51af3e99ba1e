use Rattle.step_problem.proofs.Common.{refl, below_more, entries_at, LinksFit}
use Rattle.step_problem.proofs.fitting.all_links_fit.Goals as goal

pub loop-c-preserved : goal.loop-c-preserved
loop-c-preserved c =
    below_more (λ k. LinksFit c.args.cells.now k (entries_at c.args.cells.now k).links) c.loop-c.c c.loop-c.invariant (c.if-not-links_fit.ensures.0 refl)
