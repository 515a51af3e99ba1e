use Rattle.problem_builder.proofs.Common.{ap, ◌∙◌, recharge_at, local_entries, LocalBounds}
use Rattle.problem_builder.proofs.Joined.{flows_are, first_is_pushed}
use Rattle.problem_builder.proofs.cell.flows.Goals as goal

pub returns : goal.returns
returns c =
    let i = c.args.input.now in
    let are = c.entries.view_is ∙ c.entries-entries.ensures ∙ c.requires.input.period.local c.args.cell in
    flows_are i.model i.tables.digits c.args.cell c.received_flow-received.result (recharge_at i.model i.at.period c.args.cell) _ (local_entries i.model i.at.period c.args.cell) _ _
    (first_is_pushed _ _ c.received_flow-received.result c.in_ok-flows.ensures.items c.in_ok-push_some.ensures) c.received_flow-received.ensures (ap (λ (x : LocalBounds). x.wells) are)
    c.in_ok-extend_from_slice.ensures.items
