use Rattle.exact_solutions.proofs.WorkedSteps.{well_within_deep_flow}
use Rattle.exact_solutions.proofs.worked.well_within_the_deep_flow.Goals as goal

pub returns : goal.returns
returns c = well_within_deep_flow
