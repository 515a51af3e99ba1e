use Rattle.water_conductances.proofs.Common.{FitsSigned, rules, sym, subst, to_z-of_z, w128, Dec, IsDec, IsThick, top_at, bottom_valid, top_valid}
use Rattle.water_conductances.proofs.Units.{units_in_order}
use Rattle.water_conductances.proofs.spans.saturated_span.Goals as goal

pub thickness-requires-clause-top_number : goal.thickness-requires-clause-top_number
thickness-requires-clause-top_number c = subst IsDec (sym c.top_at.ensures) (top_valid c.args.model.now c.args.cell c.requires.model)

pub thickness-requires-clause-bottom_number : goal.thickness-requires-clause-bottom_number
thickness-requires-clause-bottom_number c = subst IsDec (sym c.bottom_at.ensures) (bottom_valid c.args.model.now c.args.cell c.requires.model)

pub thickness-requires-clause-thick : goal.thickness-requires-clause-thick
thickness-requires-clause-thick c =
    let m = c.args.model.now in
    subst (λ (z : Dec). IsThick z c.bottom_at.result) (sym c.top_at.ensures)
    (subst (λ (z : Dec). IsThick (top_at m c.args.cell) z) (sym c.bottom_at.ensures) (c.requires.model.cells c.args.cell c.requires.cell c.requires.active).thick)

pub span_of-requires-clause-order : goal.span_of-requires-clause-order
span_of-requires-clause-order c =
    let p : FitsSigned w128 c.least_units-least.result = search rules in
    let q : FitsSigned w128 c.most_units.result = search rules in
    let le = units_in_order c.args.model.now c.args.heads.now c.args.cell (c.requires.ordered c.args.cell c.requires.cell) in
    simp to_z-of_z (rw (c.least_units-least.ensures, c.most_units.ensures) le)
