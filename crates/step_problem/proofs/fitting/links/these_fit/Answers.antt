use Rattle.std.proofs.Common.{rules}
use Rattle.step_problem.proofs.fitting.links.these_fit.Goals.{then-links-le-MOST_LINKS, else-links-le-MOST_LINKS}
use Rattle.step_problem.proofs.fitting.links.these_fit.Goals as goal

pub returns-then-ends_fit : goal.returns-then-ends_fit
returns-then-ends_fit c = elim c.if-links-le-MOST_LINKS.branch [ then-links-le-MOST_LINKS w ↦ search rules | else-links-le-MOST_LINKS w ↦ search rules ]
