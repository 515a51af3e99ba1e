use Rattle.problem_builder.proofs.Common.{Span, AreThick, ap, sym, subst, ◌∙◌, IsColHalf, dec_at, delc_positive}
use Rattle.conductance_bounds.specs.declared.horizontal.ColHalf.{ColHalf}
use Rattle.problem_builder.proofs.faces.col_half.Goals as goal

pub returns-clause-is : goal.returns-clause-is
returns-clause-is c =
    let along = c.delc_at-along.ensures in
    let hk = c.dec_at-hk.ensures ∙ ap (λ xs. dec_at xs c.args.cell) c.as_slice.ensures in
    let hani = c.dec_at-hani.ensures ∙ ap (λ xs. dec_at xs c.args.cell) c.as_slice-2.ensures in
    let t = c.span_at-thickness.ensures ∙ (c.requires.thick.each c.args.cell c.requires.cell c.requires.active).span in
    λ q. record { along = along q; hk = hk q; hani = hani q; thick_lo = (t q).lo; thick_hi = (t q).hi }

pub returns-clause-fits : goal.returns-clause-fits
returns-clause-fits c =
    let valid = c.requires.model.cells c.args.cell c.requires.cell c.requires.active in
    let k = c.requires.thick.each c.args.cell c.requires.cell c.requires.active in
    let P : ColHalf → Type 0 = λ h. IsColHalf h in
    subst P (sym (returns-clause-is c)) (record {
      along = delc_positive c.args.model.now c.args.cell c.requires.model;
      hk = valid.hk;
      hani = valid.hani;
      thick =
          subst (λ (q : Span). AreThick q.lo q.hi) k.span k.thick;
    })
