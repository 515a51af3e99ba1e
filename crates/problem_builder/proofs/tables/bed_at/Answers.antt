use Rattle.problem_builder.proofs.Common.{◌∙◌, sym, subst, inl, Dec, bottom_at, lowest, IsThick}
use Rattle.problem_builder.proofs.{Elevations.bed_valid, Halves.bed_some}
use Rattle.conductance_bounds.specs.{span as span_between}
use Rattle.problem_builder.proofs.tables.bed_at.Goals as goal

pub thickness-requires-clause-thick : goal.thickness-requires-clause-thick
thickness-requires-clause-thick c =
    let m = c.args.model.now in
    let b = c.is_branch_below.ensures.0 c.if-is_branch_below.true in
    let h = c.has_bed.ensures.bed c.if-has_bed.true in
    let valid = bed_valid m c.args.cell c.requires.model b.0 b.1 b.2 h.0 h.1 in
    subst (λ (z : Dec). IsThick z c.lowest.result) (sym c.bottom_at.ensures) (subst (λ (z : Dec). IsThick (bottom_at m c.args.cell) z) (sym c.lowest.ensures) valid.thick)

pub returns-then-has_bed : goal.returns-then-has_bed
returns-then-has_bed c = λ lt x y.
    let m = c.args.model.now in
    let h = c.has_bed.ensures.bed c.if-has_bed.true in
    let valid = bed_valid m c.args.cell c.requires.model lt x y h.0 h.1 in
    let span = c.thickness.ensures.rounded ∙ (λ t. span_between (c.bottom_at.ensures t) (c.lowest.ensures t)) in
    inl (record { some = bed_some m c.args.cell valid; span = span; thick = c.thickness.ensures.usable; vkcb = valid.vkcb })
