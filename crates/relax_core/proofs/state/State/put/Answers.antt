use Rattle.relax_core.proofs.Common.{ap, ◌∙◌, w64, to_z-of_z, Core, with_head}
use Rattle.relax_core.proofs.Views.{core_becomes}
use Rattle.relax_core.proofs.state.State.put.Goals as goal

pub returns : goal.returns
returns c =
    let e = c.self.view_is in
    let same = to_z-of_z w64 c.args.head c.ranges.head in
    let is = c.put_head.ensures ∙ (ap (with_head c.args.side c.self.inside.words.items c.args.cell) same ∙ ap (λ (x : Core). with_head c.args.side x.words c.args.cell c.args.head) e) in
    core_becomes c.self.inside.words.items c.self.inside.seen.items c.args.self.now _ _ c.args.actor c.args.cell c.args.side _ _ c.index_mut.result.now c.put_head-2.new.bounds
    e c.requires.actor is c.index_mut.ensures.value c.put_head-2.ensures same
