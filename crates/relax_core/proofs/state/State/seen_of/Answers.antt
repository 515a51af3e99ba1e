use Rattle.relax_core.proofs.Common.{sym, subst, ap, AreWords, Core}
use Rattle.relax_core.proofs.{Ranges.seen_in_range, Views.seen_read}
use Rattle.relax_core.proofs.state.State.seen_of.Goals as goal

pub returns-clause-words : goal.returns-clause-words
returns-clause-words c =
    let read = seen_read c.self.inside.seen.items c.args.self.now.seen c.args.actor c.index.result.now (ap (λ (x : Core). x.seen) c.self.view_is) c.requires.actor c.index.ensures in
    subst (AreWords c.args.p.now) (sym c.as_slice.ensures.value) (subst (AreWords c.args.p.now) read (seen_in_range c.args.p.now c.args.self.now c.args.actor c.requires.actor c.requires.in_range))
