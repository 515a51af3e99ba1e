use Rattle.outside.proofs.Common.{◌-◌, ◌+◌, length, Consumes}
use Rattle.outside.proofs.real.read_whole.Given as goal

abbrev pub invariant-loop-piece : goal.invariant-loop-piece
invariant-loop-piece g l = Consumes (g.S.Read.remaining l.initial.from) (g.S.Read.remaining l.from) l.bytes.items

abbrev pub decreases-loop-piece : goal.decreases-loop-piece
decreases-loop-piece g l = l.limit + 1 - length l.bytes.items
