use Rattle.problem_builder.proofs.Common.{ap, ◌∙◌, local_entries, as_river, as_drain, option_map, whole_river, whole_drain, LocalBounds, refl}
use Rattle.problem_builder.proofs.Joined.{made_of}
use Rattle.problem_builder.proofs.cell.cell.Goals as goal

pub returns : goal.returns
returns c =
    let i = c.args.input.now in
    let s = i.tables.digits in
    let entries = local_entries i.model i.at.period c.args.number in
    let are = c.entries.view_is ∙ c.entries-entries.ensures ∙ c.requires.input.period.local c.args.number in
    let flows = c.in_ok-flows.ensures in
    let links = c.in_ok-links.ensures in
    let fixed = c.in_ok-fixed_branches.ensures in
    let rivers = c.in_ok-from_slice.ensures.items ∙ ap (λ (x : LocalBounds). x.rivers) are ∙ made_of (whole_river s) as_river (λ x. option_map (whole_river s) (as_river x)) (λ x. refl) entries in
    let drains = c.in_ok-from_slice-2.ensures.items ∙ ap (λ (x : LocalBounds). x.drains) are ∙ made_of (whole_drain s) as_drain (λ x. option_map (whole_drain s) (as_drain x)) (λ x. refl) entries in
    let evaps = c.in_ok-evaps.ensures in
    λ t. record { id = c.args.number; flows = flows t; links = links t; fixed = fixed t; rivers = rivers t; drains = drains t; evaps = evaps t }
