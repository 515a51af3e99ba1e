use Rattle.problem_builder.proofs.Common.{subst, AreFactorsOf, HasStorage, Inputs}
use Rattle.problem_builder.proofs.stored.rounded_storage.Goals as goal

pub returns-in-Some : goal.returns-in-Some
returns-in-Some c =
    let P : Inputs → Type 0 = λ i. AreFactorsOf i.model i.at i.step.factors → HasStorage i.model i.tables.digits i.at c.args.cell c.storage_at.result in
    let inside = c.input.inside in
    subst P c.input.view_is (λ factors v transient. c.storage_at.ensures inside.at.step (subst (AreFactorsOf inside.model.now inside.at) c.in-Some.is factors).grown) c.requires.input.step.factors
