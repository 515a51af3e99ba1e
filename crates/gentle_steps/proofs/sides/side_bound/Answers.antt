use Rattle.gentle_steps.proofs.Common.{◌∙◌, Bool, false, cond, ap, arith, sym, heads_on, known_bound, no_bound, one_head}
use Rattle.gentle_steps.proofs.Tables.{head_is, heads_count}
use Rattle.gentle_steps.proofs.sides.side_bound.Goals as goal

pub bounds-as_slice-cell : goal.bounds-as_slice-cell
bounds-as_slice-cell c = omega (arith, c.requires.cell, heads_count c.args.model.now c.args.at c.args.step.now.heads c.as_slice.result.now c.requires.step.heads c.as_slice.ensures)

pub returns-else-is_variable : goal.returns-else-is_variable
returns-else-is_variable c =
    let m = c.args.model.now in
    let f = sym c.is_variable.ensures ∙ c.if-is_variable.false in
    head_is m c.args.at c.args.step.now.heads c.as_slice.result.now c.requires.step.heads c.as_slice.ensures c.args.cell no_bound c.requires.cell
    ∙ sym (ap (λ (b : Bool). cond b (one_head (heads_on c.args.side c.args.listed.now c.args.cell)) (known_bound m c.args.at c.args.cell)) f)
