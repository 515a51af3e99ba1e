use Rattle.deck_span.proofs.Common.{take, AllZip, AreRatesAlike}
use Rattle.deck_span.proofs.lists.first_idle_apart.Given as goal

abbrev pub invariant-loop-i : goal.invariant-loop-i
invariant-loop-i l = AllZip AreRatesAlike (take l.i l.xs) (take l.i l.ys)
