use Rattle.problem_builder.proofs.Common.{Some, None, ap, ◌∙◌, Inputs, recharge_at, item_in}
use Rattle.problem_builder.proofs.Joined.{recharge_is_whole_flow}
use Rattle.problem_builder.proofs.cell.received_flow.Goals as goal

pub returns-in-Some : goal.returns-in-Some
returns-in-Some c =
    let i = c.args.input.now in
    let is = c.in-Some.ensures ∙ ap (λ (z : Inputs). item_in z.period.recharge c.args.cell) c.input.view_is ∙ c.requires.input.period.recharge.each c.args.cell c.requires.cell.within in
    ap Some c.constant_flow.ensures ∙ recharge_is_whole_flow i.model i.tables.digits c.args.cell (recharge_at i.model i.at.period c.args.cell) (Some c.in-Some.pair) is

pub returns-in-None : goal.returns-in-None
returns-in-None c =
    let i = c.args.input.now in
    let is = c.in-None.ensures ∙ ap (λ (z : Inputs). item_in z.period.recharge c.args.cell) c.input.view_is ∙ c.requires.input.period.recharge.each c.args.cell c.requires.cell.within in
    recharge_is_whole_flow i.model i.tables.digits c.args.cell (recharge_at i.model i.at.period c.args.cell) None is
