use Rattle.problem_builder.proofs.Common.{◌∙◌, ap, capped_pair}
use Rattle.problem_builder.proofs.Fits.{kept_pair}
use Rattle.problem_builder.proofs.start.cond_pair.Goals as goal

pub returns : goal.returns
unfolding capped_pair
returns c = c.capped_pair.ensures ∙ ap kept_pair c.number_pair.ensures
