use Rattle.problem_builder.proofs.Common.{◌∙◌, ap, capped_flow}
use Rattle.problem_builder.proofs.Fits.{kept_flow}
use Rattle.problem_builder.proofs.start.well_pair.Goals as goal

pub returns : goal.returns
unfolding capped_flow
returns c = c.capped_flow.ensures ∙ ap kept_flow c.number_flow.ensures
