use Rattle.step_problem.specs.declared.heads.Side.TheVariants.{Low, High}
use Rattle.barrier_vector.proofs.{Cutting.cut_encloses, Cutting.cut_holds, Cutting.high_cut_fault, Sides.stored_fault, Sides.unbounded_refuses}
use Rattle.barrier_vector.proofs.cut_barrier.Goals as goal

pub returns-in-Err-cut_side-clause-stored : goal.returns-in-Err-cut_side-clause-stored
returns-in-Err-cut_side-clause-stored c = λ stored.
    stored_fault Low c.args.p.now stored c.in-Err-cut_side.fault (unbounded_refuses Low c.args.p.now c.in-Err-cut_side.fault c.in-Err-cut_side.ensures.fault)

pub returns-in-Ok-cut_side-2-clause-held : goal.returns-in-Ok-cut_side-2-clause-held
returns-in-Ok-cut_side-2-clause-held c = cut_holds c.args.p.now c.in-Ok-cut_side.floor.items c.in-Ok-cut_side.ensures.side

pub returns-in-Ok-cut_side-2-clause-encloses : goal.returns-in-Ok-cut_side-2-clause-encloses
returns-in-Ok-cut_side-2-clause-encloses c =
    cut_encloses c.args.p.now (record { floor = c.in-Ok-cut_side.floor.items; ceiling = c.in-Ok-cut_side-2.ceiling.items }) c.recall_conditions.ensures.fits
    (record { floors = c.in-Ok-cut_side.ensures.side; ceilings = c.in-Ok-cut_side-2.ensures.side })

pub returns-clause-refusal : goal.returns-clause-refusal
returns-clause-refusal c = high_cut_fault c.args.p.now c.recall_conditions.ensures.fits c.in-Ok-cut_side.floor.items c.in-Ok-cut_side.ensures.side
    c.in-Err-cut_side-2.fault c.in-Err-cut_side-2.ensures.fault

pub returns-clause-stored : goal.returns-clause-stored
returns-clause-stored c = λ stored. stored_fault High c.args.p.now stored c.in-Err-cut_side-2.fault (unbounded_refuses High c.args.p.now c.in-Err-cut_side-2.fault c.in-Err-cut_side-2.ensures.fault)
