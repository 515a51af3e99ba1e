use Rattle.convertible_reader.proofs.Common.{laytyp_at, repeated_reading, ◌-◌, ◌≡◌, with_front}
use Rattle.convertible_reader.proofs.settings.laytyps.Given as goal

abbrev pub invariant-loop : goal.invariant-loop
invariant-loop l =
    with_front l.values.items (repeated_reading (l.count - l.counter) (laytyp_at l.thickstrt l.file) (l.free, l.lines))
    ≡ repeated_reading l.count (laytyp_at l.thickstrt l.file) (l.fn.free, l.fn.lines)
