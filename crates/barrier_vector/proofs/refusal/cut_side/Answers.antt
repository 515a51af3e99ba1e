use Rattle.barrier_vector.proofs.Common.{subst, List, Option, ℤ, None, Some, length, IsFirst, IsMissing, AreHeadsOf}
use Rattle.barrier_vector.proofs.Sides.{side_unbounded, side_is_cut}
use Rattle.barrier_vector.proofs.refusal.cut_side.Goals as goal

pub returns-in-Some-clause-fault : goal.returns-in-Some-clause-fault
returns-in-Some-clause-fault c =
    side_unbounded c.args.side c.args.p.now c.in-Ok.bounds.items c.in-Ok.ensures c.no_barrier.result c.in-Some.c
    (subst (λ (z : List (Option ℤ)). IsFirst (IsMissing z) (length z) (Some c.in-Some.c)) c.deref.ensures.value c.in-Some.ensures)
    c.no_barrier.ensures

pub returns-in-Ok-heads_of-clause-side : goal.returns-in-Ok-heads_of-clause-side
returns-in-Ok-heads_of-clause-side c =
    side_is_cut c.args.side c.args.p.now c.in-Ok.bounds.items c.in-Ok.ensures c.in-Ok-heads_of.heads.items
    (subst (λ (z : List (Option ℤ)). IsFirst (IsMissing z) (length z) None) c.deref.ensures.value c.in-None.ensures)
    (subst (λ (z : List (Option ℤ)). AreHeadsOf z c.in-Ok-heads_of.heads.items) c.deref-in-None.ensures.value c.in-Ok-heads_of.ensures)
