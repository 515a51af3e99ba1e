use Rattle.problem_builder.proofs.TimesOf.{models_are_buildable}
use Rattle.problem_builder.proofs.laws.models_are_buildable.Goals as goal

pub returns : goal.returns
returns c = models_are_buildable
