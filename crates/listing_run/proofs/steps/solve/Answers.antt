use Rattle.listing_run.proofs.steps.solve.Goals as goal

pub returns-then-is_last-clause-encloses : goal.returns-then-is_last-clause-encloses
returns-then-is_last-clause-encloses g c = rw c.in_ok-own.ensures.first.digits at c.last_step.ensures.encloses

pub returns-clause-encloses : goal.returns-clause-encloses
returns-clause-encloses g c = rw c.in_ok-own.ensures.first.digits at c.next_step_with-solved.ensures.encloses
