use Rattle.relax_core.proofs.Views.{in_range_iff}
use Rattle.relax_core.proofs.state.State.is_in_range.Goals as goal

pub returns-then-are_words : goal.returns-then-are_words
returns-then-are_words c =
    in_range_iff c.args.p.now c.self.inside.words.items _ c.self.inside.seen.items _ c.args.self.now c.are_all_words.result c.self.view_is
    c.as_slice.ensures.value c.as_slice-then-are_words.ensures.value
    (c.are_words.ensures.0 c.if-are_words.true) c.are_all_words.ensures
