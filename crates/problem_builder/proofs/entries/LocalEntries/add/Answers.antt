use Rattle.problem_builder.proofs.Common.{ap, ◌∙◌, as_river, as_drain, option_map, whole_river, whole_drain, well_of, general_of, LocalBounds}
use Rattle.problem_builder.proofs.Joined.{push_given}
use Rattle.problem_builder.proofs.entries.LocalEntries.add.Goals as goal

pub returns : goal.returns
returns c = λ es h.
    let s = c.args.s in
    let cell = c.args.cell in
    let e = c.args.entry.now in
    let was = c.self.view_is ∙ h in
    let wells = push_given (well_of s) es e _ _ c.well.result c.in_ok-push_some.ensures c.well.ensures (ap (λ (x : LocalBounds). x.wells) was) in
    let rivers = push_given (λ x. option_map (whole_river s) (as_river x)) es e _ _ c.river.result c.in_ok-push_some-2.ensures c.river.ensures (ap (λ (x : LocalBounds). x.rivers) was) in
    let drains = push_given (λ x. option_map (whole_drain s) (as_drain x)) es e _ _ c.drain.result c.in_ok-push_some-3.ensures c.drain.ensures (ap (λ (x : LocalBounds). x.drains) was) in
    let generals = push_given (general_of s cell) es e _ _ c.general.result c.in_ok-push_some-4.ensures c.general.ensures (ap (λ (x : LocalBounds). x.generals) was) in
    λ t. record { wells = wells t; rivers = rivers t; drains = drains t; generals = generals t }
