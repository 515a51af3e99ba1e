use Rattle.barrier_vector.proofs.Common.{◌≡◌, ℤ, Option, drop, outer_of, outermost, FnReturnsAt}
use Rattle.barrier_vector.proofs.marks.outermost.Given as goal

abbrev pub invariant-loop-x : goal.invariant-loop-x
invariant-loop-x g l = (of : _ → Option ℤ) → ((x : _) (r : Option ℤ) → FnReturnsAt g.F.Fn l.mark x r → r ≡ of x) →
    outer_of l.side l.best (outermost l.side of (drop l.x-index l.entries)) ≡ outermost l.side of l.entries
