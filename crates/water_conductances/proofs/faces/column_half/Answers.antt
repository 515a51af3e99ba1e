use Rattle.water_conductances.proofs.Common.{ap, sym, subst, ◌∙◌, delc_positive, IsColHalf, dec_at}
use Rattle.conductance_bounds.specs.declared.horizontal.ColHalf.{ColHalf}
use Rattle.water_conductances.proofs.faces.column_half.Goals as goal

pub returns-clause-is : goal.returns-clause-is
returns-clause-is c =
    let along = c.delc_at-along.ensures in
    let hk = c.dec_at-hk.ensures ∙ ap (λ xs. dec_at xs c.args.cell) c.as_slice.ensures in
    let hani = c.dec_at-hani.ensures ∙ ap (λ xs. dec_at xs c.args.cell) c.as_slice-2.ensures in
    λ i. record { along = along i; hk = hk i; hani = hani i; thick_lo = c.args.thick.lo; thick_hi = c.args.thick.hi }

pub returns-clause-fits : goal.returns-clause-fits
returns-clause-fits c =
    let valid = c.requires.model.cells c.args.cell c.requires.cell c.requires.active in
    let P : ColHalf → Type 0 = λ h. IsColHalf h in
    subst P (sym (returns-clause-is c)) (record { along = delc_positive c.args.model.now c.args.cell c.requires.model; hk = valid.hk; hani = valid.hani; thick = c.requires.thick })
