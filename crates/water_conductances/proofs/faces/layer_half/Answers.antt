use Rattle.water_conductances.proofs.Common.{ap, sym, subst, ◌∙◌, IsVertHalf, VertHalf, dec_at}
use Rattle.water_conductances.proofs.faces.layer_half.Goals as goal

pub returns-clause-is : goal.returns-clause-is
returns-clause-is c =
    let hk = c.dec_at-hk.ensures ∙ ap (λ xs. dec_at xs c.args.cell) c.as_slice.ensures in
    let vka = c.dec_at-vka.ensures ∙ ap (λ xs. dec_at xs c.args.cell) c.as_slice-2.ensures in
    let r = c.is_ratio-ratio.ensures in
    λ i. record { hk = hk i; vka = vka i; ratio = r i; thick_lo = c.args.thick.lo; thick_hi = c.args.thick.hi }

pub returns-clause-fits : goal.returns-clause-fits
returns-clause-fits c =
    let valid = c.requires.model.cells c.args.cell c.requires.cell c.requires.active in
    let P : VertHalf → Type 0 = λ h. IsVertHalf h in
    subst P (sym (returns-clause-is c)) (record { hk = valid.hk; vka = valid.vka c.requires.layers; thick = c.requires.thick })
