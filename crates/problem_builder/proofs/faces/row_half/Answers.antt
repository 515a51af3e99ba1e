use Rattle.problem_builder.proofs.Common.{Span, AreThick, ap, sym, subst, ◌∙◌, IsHalf, dec_at, delr_positive}
use Rattle.conductance_bounds.specs.declared.horizontal.Half.{Half}
use Rattle.problem_builder.proofs.faces.row_half.Goals as goal

pub returns-clause-is : goal.returns-clause-is
returns-clause-is c =
    let along = c.delr_at-along.ensures in
    let hk = c.dec_at-hk.ensures ∙ ap (λ xs. dec_at xs c.args.cell) c.as_slice.ensures in
    let t = c.span_at-thickness.ensures ∙ (c.requires.thick.each c.args.cell c.requires.cell c.requires.active).span in
    λ q. record { along = along q; hk = hk q; thick_lo = (t q).lo; thick_hi = (t q).hi }

pub returns-clause-fits : goal.returns-clause-fits
returns-clause-fits c =
    let valid = c.requires.model.cells c.args.cell c.requires.cell c.requires.active in
    let k = c.requires.thick.each c.args.cell c.requires.cell c.requires.active in
    let P : Half → Type 0 = λ h. IsHalf h in
    subst P (sym (returns-clause-is c)) (record { along = delr_positive c.args.model.now c.args.cell c.requires.model; hk = valid.hk; thick = subst (λ (q : Span). AreThick q.lo q.hi) k.span k.thick })
