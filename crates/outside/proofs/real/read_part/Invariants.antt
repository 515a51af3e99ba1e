use Rattle.outside.proofs.Common.{◌≡◌, length, Keeps}
use Rattle.outside.proofs.real.read_part.Given as goal

abbrev pub invariant-loop : goal.invariant-loop
invariant-loop g l = (length l.piece ≡ length l.initial.piece) × Keeps (g.S.Read.remaining l.initial.from) (g.S.Read.remaining l.from)
