use Rattle.problem_builder.proofs.Common.{sym, subst, ◌∙◌, Dec, IsDec, top_at, IsThick}
use Rattle.problem_builder.proofs.Elevations.{top_valid, bottom_valid}
use Rattle.conductance_bounds.specs.{span}
use Rattle.problem_builder.proofs.tables.thickness_at.Goals as goal

pub thickness-requires-clause-top_number : goal.thickness-requires-clause-top_number
thickness-requires-clause-top_number c = subst IsDec (sym c.top_at.ensures) (top_valid c.args.model.now c.args.cell c.requires.model)

pub thickness-requires-clause-bottom_number : goal.thickness-requires-clause-bottom_number
thickness-requires-clause-bottom_number c = subst IsDec (sym c.bottom_at.ensures) (bottom_valid c.args.model.now c.args.cell c.requires.model)

pub thickness-requires-clause-thick : goal.thickness-requires-clause-thick
thickness-requires-clause-thick c =
    let m = c.args.model.now in
    let active = sym c.is_active.ensures ∙ c.if-is_active.true in
    subst (λ (z : Dec). IsThick z c.bottom_at.result) (sym c.top_at.ensures)
    (subst (λ (z : Dec). IsThick (top_at m c.args.cell) z) (sym c.bottom_at.ensures) (c.requires.model.cells c.args.cell c.requires.cell active).thick)

pub returns-then-is_active : goal.returns-then-is_active
returns-then-is_active c = λ active. record { span = c.thickness.ensures.rounded ∙ (λ t. span (c.top_at.ensures t) (c.bottom_at.ensures t)); thick = c.thickness.ensures.usable }
