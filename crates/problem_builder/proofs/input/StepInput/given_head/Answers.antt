use Rattle.problem_builder.proofs.Common.{ap, arith, length, ◌∙◌, cell_count, Inputs, known_bound, length-map-range_with_len}
use Rattle.problem_builder.proofs.input.StepInput.given_head.Goals as goal

pub bounds-as_slice-cell : goal.bounds-as_slice-cell
bounds-as_slice-cell c =
    let i = c.args.self.now in
    let heads = c.as_slice.ensures ∙ ap (λ (z : Inputs). z.step.heads) c.self.view_is ∙ c.requires.input.step.heads in
    omega (arith, c.requires.cell, ap length heads, length-map-range_with_len (known_bound i.model i.at) 0 (cell_count i.model.grid))
