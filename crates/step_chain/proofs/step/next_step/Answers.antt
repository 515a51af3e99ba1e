use Rattle.step_chain.proofs.step.next_step.Goals as goal

pub returns-clause-encloses : goal.returns-clause-encloses
returns-clause-encloses g c = rw c.in_ok-tables.ensures.first.digits at c.last_step.ensures.encloses

pub returns-clause-leads : goal.returns-clause-leads
returns-clause-leads g c = rw c.in_ok-tables.ensures.first.digits at c.last_step.ensures.leads
