use Rattle.problem_builder.proofs.Common.{◌%◌, sym, ap, ◌∙◌, subst, FitsSigned, arith, w64, to_z-of_z, ints, IsDec, Period, dec_at, is_chosen}
use Rattle.problem_builder.proofs.{ValidEntries.period_valid, ChosenRates.rate_valid}
use Rattle.problem_builder.proofs.recharge.rate_of.Goals as goal

pub returns-then-is_chosen-clause-decimal : goal.returns-then-is_chosen-clause-decimal
returns-then-is_chosen-clause-decimal c =
    let m = c.args.model.now in
    let p = c.args.number in
    let fits : FitsSigned w64 m.nrchop = omega (arith, ints, c.requires.model.nrchop.0, c.requires.model.nrchop.1) in
    let chosen = simp to_z-of_z at c.is_chosen.ensures in
    let irch = c.as_slice-layers.ensures ∙ ap (λ (x : Period). x.stresses.irch) c.stress_period-period.ensures in
    let rates = c.as_slice.ensures ∙ ap (λ (x : Period). x.stresses.recharge) c.stress_period-period.ensures in
    let valid = rate_valid m p c.args.cell (period_valid m p c.requires.model c.requires.number) (ap (λ xs. is_chosen m m.nrchop xs c.args.cell) (sym irch) ∙ sym chosen ∙ c.if-is_chosen.true) in
    subst IsDec (sym (c.dec_at.ensures ∙ (λ t. dec_at (rates t) (c.args.cell % c.layer_size.ensures.size t)))) valid
