use Rattle.array_reader.proofs.StepLemmas.{value_again, value_word}
use Rattle.array_reader.specs.{with_multiplier}
use Rattle.array_reader.proofs.lists.next_kept.Goals as goal

pub returns-then-repeats-clause-value : goal.returns-then-repeats-clause-value
returns-then-repeats-clause-value g c =
    value_again (with_multiplier g.V.Value.kind c.args.by) c.args.file.now c.args.free.now c.repeats.new.self c.args.lines.now c.in-Some.value
    (c.repeats.ensures.taken c.if-repeats.true c.args.lines.now) (rw c.in-Some.is at c.requires.last)

pub returns-clause-last : goal.returns-clause-last
returns-clause-last g c = value_word (with_multiplier g.V.Value.kind c.args.by) c.args.file.now _ _ c.in_ok-value.value _ c.in_ok-value.ensures
