use Rattle.array_reader.proofs.Common.{◌≡◌, ◌-◌, Ok, IfSome, repeated_reading, with_front, with_multiplier, value_alone}
use Rattle.array_reader.proofs.lists.values.Given as goal

abbrev pub invariant-loop : goal.invariant-loop
invariant-loop g l =
    (with_front l.values.items (repeated_reading (l.count - l.counter) (value_alone (with_multiplier g.V.Value.kind l.by) l.file) (l.free, l.lines)) ≡
    repeated_reading l.count (value_alone (with_multiplier g.V.Value.kind l.by) l.file) (l.fn.free, l.fn.lines))
    × IfSome l.last (λ v. with_multiplier g.V.Value.kind l.by l.free.word ≡ Ok v)
