use Rattle.plan_difference.proofs.AnyWeather.{differences_are_enclosed}
use Rattle.plan_difference.proofs.exact_step.differences_are_enclosed.Goals as goal

pub returns : goal.returns
returns c = differences_are_enclosed
