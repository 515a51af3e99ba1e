use Rattle.problem_builder.proofs.Common.{◌∙◌, ap, bound_of_pair}
use Rattle.problem_builder.proofs.start.head_pair.Goals as goal

pub returns : goal.returns
returns c = c.bound_of.ensures ∙ ap bound_of_pair c.head_bounds.ensures.rounded
