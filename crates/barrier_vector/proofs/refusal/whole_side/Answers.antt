use Rattle.barrier_vector.proofs.Common.{subst, List, ℤ, None, Some, length, IsFirst, LiesOut}
use Rattle.barrier_vector.proofs.Sides.{refused_out_of_range, side_is_whole}
use Rattle.barrier_vector.proofs.refusal.whole_side.Goals as goal

pub returns-in-Some-clause-fault : goal.returns-in-Some-clause-fault
returns-in-Some-clause-fault c =
    refused_out_of_range c.args.side c.args.p.now c.recall_conditions.ensures.fits c.in-Ok.bounds.items c.in-Ok.ensures.side c.out_of_range.result c.in-Some.c
    (subst (λ (z : List ℤ). IsFirst (LiesOut c.args.side z) (length z) (Some c.in-Some.c)) c.deref.ensures.value c.in-Some.ensures)
    c.out_of_range.ensures

pub returns-in-None-clause-side : goal.returns-in-None-clause-side
returns-in-None-clause-side c =
    side_is_whole c.args.side c.args.p.now c.recall_conditions.ensures.fits c.in-Ok.bounds.items c.in-Ok.ensures.side
    (subst (λ (z : List ℤ). IsFirst (LiesOut c.args.side z) (length z) None) c.deref.ensures.value c.in-None.ensures)
