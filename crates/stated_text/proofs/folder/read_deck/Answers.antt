use Rattle.stated_text.proofs.Common.{FileSet, FlowModel, refl, subst, Has, deck_name, reads}
use Rattle.stated_text.proofs.folder.read_deck.Goals as goal

pub returns-clause-reads : goal.returns-clause-reads
returns-clause-reads c =
    let S : FileSet → Type 0 = λ files. Has (λ (m : FlowModel). m) c.read_named_model.result (reads c.args.limits files deck_name) in
    subst S (c.read_named_model.ensures.folder.since _ refl) (c.read_named_model.ensures.model _ refl)
