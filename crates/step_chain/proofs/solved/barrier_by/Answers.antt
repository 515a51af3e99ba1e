use Rattle.step_chain.proofs.Common.{IfOk, subst, sym, IsBarrierBy, Limits}
use Rattle.step_chain.proofs.Limits.{plain_found}
use Rattle.step_chain.proofs.solved.barrier_by.Goals as goal

pub returns-in-Plain-clause-barrier : goal.returns-in-Plain-clause-barrier
returns-in-Plain-clause-barrier c =
    let B : Limits → Type 0 = λ limits. IfOk c.barrier.result (IsBarrierBy limits c.args.p.now) in
    subst B (sym c.in-Plain.is) (plain_found c.args.p.now c.recall_conditions.ensures.fits c.barrier.result c.barrier.ensures.barrier c.barrier.ensures.floors c.barrier.ensures.ceilings)

pub returns-in-Wide-clause-barrier : goal.returns-in-Wide-clause-barrier
returns-in-Wide-clause-barrier c =
    let B : Limits → Type 0 = λ limits. IfOk c.cut_barrier.result (IsBarrierBy limits c.args.p.now) in
    subst B (sym c.in-Wide.is) c.cut_barrier.ensures.barrier
