use Rattle.problem_builder.proofs.Common.{sym, subst, All, Entries, RiverFits, EvapFits}
use Rattle.problem_builder.proofs.Fits.{rivers_fit, evaps_fit}
use Rattle.problem_builder.proofs.builder.checked_cell.Goals as goal

pub fault-requires-clause-rivers : goal.fault-requires-clause-rivers
fault-requires-clause-rivers c =
    let i = c.args.input.now in
    subst (λ (e : Entries). All RiverFits e.rivers) (sym c.in_ok-made.ensures) (rivers_fit i.model i.tables.digits i.at.period c.args.number c.requires.input.model c.requires.input.time.valid)

pub fault-requires-clause-evaps : goal.fault-requires-clause-evaps
fault-requires-clause-evaps c =
    let i = c.args.input.now in
    subst (λ (e : Entries). All EvapFits e.evaps) (sym c.in_ok-made.ensures)
    (evaps_fit i.model i.tables.digits i.at.period c.args.number c.requires.input.model c.requires.input.time.valid c.requires.cell.within
    c.requires.cell.variable)
