use Rattle.problem_builder.proofs.Common.{cond, sym, ap, ◌∙◌, constant_bound, no_bound}
use Rattle.problem_builder.proofs.KindsOf.{constant_kind, variable_constant, no_flow_constant}
use Rattle.problem_builder.proofs.heads.head_of.Goals as goal

pub returns-in-Constant : goal.returns-in-Constant
returns-in-Constant c =
    let m = c.args.model.now in
    let k = constant_kind m c.args.at.period c.args.cell (sym (c.requires.period.1.kinds.each c.args.cell c.requires.cell) ∙ sym c.in-Constant.ensures) in
    c.head_at.ensures ∙ ap (λ b. cond b (constant_bound m c.args.at c.args.cell) no_bound) (sym k)

pub returns-in-Variable : goal.returns-in-Variable
returns-in-Variable c =
    let m = c.args.model.now in
    let k = variable_constant m c.args.at.period c.args.cell (sym (c.requires.period.1.kinds.each c.args.cell c.requires.cell) ∙ sym c.in-Variable.ensures) in
    ap (λ b. cond b (constant_bound m c.args.at c.args.cell) no_bound) (sym k)

pub returns-in-NoFlow : goal.returns-in-NoFlow
returns-in-NoFlow c =
    let m = c.args.model.now in
    let k = no_flow_constant m c.args.at.period c.args.cell (sym (c.requires.period.1.kinds.each c.args.cell c.requires.cell) ∙ sym c.in-NoFlow.ensures) in
    ap (λ b. cond b (constant_bound m c.args.at c.args.cell) no_bound) (sym k)
