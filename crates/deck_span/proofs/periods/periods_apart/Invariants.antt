use Rattle.deck_span.proofs.Common.{take, AllZip, SharesIn}
use Rattle.deck_span.proofs.periods.periods_apart.Given as goal

abbrev pub invariant-loop-i : goal.invariant-loop-i
invariant-loop-i l = AllZip (SharesIn l.kind) (take l.i l.ps) (take l.i l.qs)
