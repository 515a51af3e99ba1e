use Rattle.deck_span.proofs.Common.{take, AllZip}
use Rattle.deck_span.proofs.lists.first_apart.Given as goal

abbrev pub invariant-loop-i : goal.invariant-loop-i
invariant-loop-i g l = AllZip g.T.Compared.alike (take l.i l.xs) (take l.i l.ys)
