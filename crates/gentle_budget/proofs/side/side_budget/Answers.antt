use Rattle.gentle_budget.proofs.Common.{◌∙◌, List, subst, sym, Bound, AreWords}
use Rattle.gentle_budget.proofs.Words.{words_fit}
use Rattle.gentle_budget.proofs.side.side_budget.Goals as goal

pub budget-requires : goal.budget-requires
budget-requires c =
    let p = c.args.problem.now in
    let W : List Bound → Type 0 = AreWords p in
    record { bounds = subst W (sym (c.as_slice.ensures.value ∙ c.in_ok-words.ensures)) (words_fit c.args.listed.now c.args.side p c.requires.heads c.requires.ids) }
