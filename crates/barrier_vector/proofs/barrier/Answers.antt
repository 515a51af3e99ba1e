use Rattle.barrier_vector.proofs.Common.{Low, High, head_at}
use Rattle.barrier_vector.proofs.{Floors.encloses_all, Floors.held_all, Sides.stored_fault}
use Rattle.barrier_vector.proofs.barrier.Goals as goal

pub returns-in-Ok-whole_side-2-clause-held : goal.returns-in-Ok-whole_side-2-clause-held
returns-in-Ok-whole_side-2-clause-held c = held_all c.args.p.now (head_at c.in-Ok-whole_side.floor.items) c.in-Ok-whole_side.ensures.side.is

pub returns-in-Ok-whole_side-2-clause-encloses : goal.returns-in-Ok-whole_side-2-clause-encloses
returns-in-Ok-whole_side-2-clause-encloses c =
    encloses_all c.args.p.now (head_at c.in-Ok-whole_side.floor.items)
    (head_at c.in-Ok-whole_side-2.ceiling.items) c.recall_conditions.ensures.fits c.in-Ok-whole_side.ensures.side.is c.in-Ok-whole_side-2.ensures.side.is

pub returns-in-Err-whole_side-clause-stored : goal.returns-in-Err-whole_side-clause-stored
returns-in-Err-whole_side-clause-stored c = λ stored. stored_fault Low c.args.p.now stored c.in-Err-whole_side.fault c.in-Err-whole_side.ensures.fault

pub returns-clause-stored : goal.returns-clause-stored
returns-clause-stored c = λ stored. stored_fault High c.args.p.now stored c.in-Err-whole_side-2.fault c.in-Err-whole_side-2.ensures.fault
