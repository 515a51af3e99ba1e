use Rattle.problem_builder.proofs.Common.{ap, ◌∙◌, evap_at, Inputs, whole_evap, item_in, option_to_list}
use Rattle.problem_builder.proofs.{Members.variable_active, Joined.first_is_pushed, Joined.made_list}
use Rattle.problem_builder.proofs.cell.evaps.Goals as goal

pub returns : goal.returns
returns c =
    let i = c.args.input.now in
    let at = c.at.ensures ∙ ap (λ (z : Inputs).
    item_in z.period.evaps c.args.cell) c.input.view_is ∙ c.requires.input.period.evaps.each c.args.cell c.requires.cell.within
    (variable_active i.model i.at.period c.args.cell c.requires.cell.variable) in
    first_is_pushed _ _ c.at.result c.new-evaps.ensures.items c.in_ok-push_some.ensures ∙ ap option_to_list at ∙ made_list
    (whole_evap i.model i.tables.digits c.args.cell) (evap_at i.model i.at.period c.args.cell)
