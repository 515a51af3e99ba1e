use Rattle.problem_builder.proofs.Common.{ap, ◌∙◌, slice_index_or, NoFlow, Inputs}
use Rattle.problem_builder.proofs.input.StepInput.kind.Goals as goal

pub returns : goal.returns
returns c = ap (λ xs. slice_index_or xs c.args.cell NoFlow) (c.as_slice.ensures ∙ ap (λ (z : Inputs). z.period.kinds) c.self.view_is) ∙ c.requires.input.period.kinds.each c.args.cell c.requires.cell
