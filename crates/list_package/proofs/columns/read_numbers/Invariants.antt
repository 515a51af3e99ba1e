use Rattle.list_package.proofs.Common.{◌≡◌, ◌-◌, All, length, IsDec, repeated_reading, with_front, number_at, number}
use Rattle.list_package.proofs.columns.read_numbers.Given as goal

abbrev pub invariant-loop : goal.invariant-loop
invariant-loop l =
    (with_front l.numbers.items (repeated_reading (l.count - l.counter) (number_at number l.file l.line) l.words) ≡ repeated_reading l.count (number_at number l.file l.line) l.fn.words)
    × (length l.numbers.items ≡ l.counter)
    × All IsDec l.numbers.items
