use Rattle.problem_builder.proofs.Common.{ap, ◌∙◌, bound_of_pair}
use Rattle.problem_builder.proofs.Fits.{ceiling_units, floor_units, units_64}
use Rattle.problem_builder.proofs.start.depth_pair.Goals as goal

pub whole_bounds-requires-clause-low : goal.whole_bounds-requires-clause-low
whole_bounds-requires-clause-low c = λ z h. units_64 z (floor_units c.args.depth z c.requires.depth h)

pub whole_bounds-requires-clause-high : goal.whole_bounds-requires-clause-high
whole_bounds-requires-clause-high c = λ z h. units_64 z (ceiling_units c.args.depth z c.requires.depth h)

pub returns : goal.returns
returns c = c.bound_of.ensures ∙ ap bound_of_pair c.whole_bounds.ensures.rounded
