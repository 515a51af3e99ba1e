use Rattle.problem_builder.proofs.Common.{◌≡◌, Some, List, sym, ap, ◌∙◌, subst, Pair, AreEvenStorages, HasStorage, Inputs, pair_in}
use Rattle.problem_builder.proofs.stored.storage.Goals as goal

pub returns-in-Some : goal.returns-in-Some
returns-in-Some c =
    let i = c.args.input.now in
    let is : i.period.storage ≡ Some c.in-Some.even = sym (ap (λ (x : Inputs). x.period.storage) c.input.view_is) ∙ c.in-Some.is in
    let even = subst (AreEvenStorages i.model i.tables.digits i.at.period) is c.requires.input.storage in
    let P : List Pair → Type 0 = λ xs. HasStorage i.model i.tables.digits i.at c.args.cell (pair_in xs c.args.cell) in
    subst P (sym c.as_slice.ensures) (even.each c.args.cell c.requires.cell.within i.at.step)
