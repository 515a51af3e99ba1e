use Rattle.problem_builder.proofs.Common.{Span, AreThick, ap, sym, subst, ◌∙◌, IsVertHalf, dec_at}
use Rattle.conductance_bounds.specs.declared.vertical.VertHalf.{VertHalf}
use Rattle.problem_builder.proofs.faces.vert_half.Goals as goal

pub returns-clause-is : goal.returns-clause-is
returns-clause-is c =
    let hk = c.dec_at-hk.ensures ∙ ap (λ xs. dec_at xs c.args.cell) c.as_slice.ensures in
    let vka = c.dec_at-vka.ensures ∙ ap (λ xs. dec_at xs c.args.cell) c.as_slice-2.ensures in
    let r = c.is_ratio-ratio.ensures in
    let t = c.span_at-thickness.ensures ∙ (c.requires.thick.each c.args.cell c.requires.cell c.requires.active).span in
    λ q. record { hk = hk q; vka = vka q; ratio = r q; thick_lo = (t q).lo; thick_hi = (t q).hi }

pub returns-clause-fits : goal.returns-clause-fits
returns-clause-fits c =
    let valid = c.requires.model.cells c.args.cell c.requires.cell c.requires.active in
    let k = c.requires.thick.each c.args.cell c.requires.cell c.requires.active in
    let P : VertHalf → Type 0 = λ h. IsVertHalf h in
    subst P (sym (returns-clause-is c)) (record { hk = valid.hk; vka = valid.vka c.requires.layers; thick = subst (λ (q : Span). AreThick q.lo q.hi) k.span k.thick })
