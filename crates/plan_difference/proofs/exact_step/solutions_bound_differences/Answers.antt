use Rattle.plan_difference.proofs.AnyWeather.{solutions_bound_differences}
use Rattle.plan_difference.proofs.exact_step.solutions_bound_differences.Goals as goal

pub returns : goal.returns
returns c = solutions_bound_differences
