use Rattle.step_problem.proofs.Common.{◌≡◌, ◌∙◌, List, IsTrue, ap, subst, get_or, get_or_default, Link, Entries, entries_at, no_entries, LinksFit}
use Rattle.step_problem.proofs.fitting.links.links_fit.Goals as goal

pub returns : goal.returns
returns c =
    let here : get_or c.args.cells.now c.args.c c.index-cells-c.result ≡ entries_at c.args.cells.now c.args.c = get_or_default c.args.cells.now c.args.c _ no_entries c.requires.index in
    let links : c.deref.result.now ≡ (entries_at c.args.cells.now c.args.c).links = c.deref.ensures.value ∙ ap (λ (k : Entries). k.links) (c.cell.view_is ∙ c.index-cells-c.is ∙ here) in
    subst (λ (ls : List Link). (IsTrue c.these_fit.result → LinksFit c.args.cells.now c.args.c ls) × (LinksFit c.args.cells.now c.args.c ls → IsTrue c.these_fit.result)) links c.these_fit.ensures
