use Rattle.relax_core.proofs.Common.{List, get_or, ap, ◌∙◌, FitsSigned, rules, w64, to_z-of_z, get_or_default, Bound, no_bound, head_of, Core}
use Rattle.relax_core.proofs.Views.{core_becomes}
use Rattle.relax_core.proofs.state.State.see.Goals as goal

pub returns : goal.returns
returns c =
    let e = c.self.view_is in
    let w : List Bound = c.args.self.now.words in
    let is = ap (λ (x : Core). x.words) e in
    let word = c.index.ensures ∙ (ap (λ (l : List Bound). get_or l c.args.cell c.index.result.now) is ∙ get_or_default w c.args.cell c.index.result.now no_bound c.requires.cell) in
    let fits : FitsSigned w64 c.head_on-word.result = search rules in
    core_becomes c.self.inside.words.items c.self.inside.seen.items c.args.self.now _ _ c.args.actor c.args.cell c.args.side _ _ c.index_mut.result.now c.put_head.new.bounds
    e c.requires.actor is c.index_mut.ensures.value c.put_head.ensures
    (to_z-of_z w64 c.head_on-word.result fits ∙ (c.head_on-word.ensures ∙ ap (head_of c.args.side) word))
