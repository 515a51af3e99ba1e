use Rattle.std.proofs.Common.{◌∙◌}
use Rattle.problem_builder.proofs.TimesOf.{time_of}
use Rattle.problem_builder.proofs.step.StepTables.new.Goals as goal

pub constant_heads-requires-clause-time : goal.constant_heads-requires-clause-time
constant_heads-requires-clause-time c = time_of c.args.model.now c.args.at c.requires.model c.requires.time

pub factors_of-requires-clause-time : goal.factors_of-requires-clause-time
factors_of-requires-clause-time c = time_of c.args.model.now c.args.at c.requires.model c.requires.time

pub returns : goal.returns
returns c = record { factors = c.factors_of.ensures; heads = c.new.ensures ∙ c.in_ok-heads.ensures }
