use Rattle.plan_wells.proofs.Valid.{plain_are_few, planned_are_valid}
use Rattle.plan_wells.proofs.laws.planned_are_valid.Goals as goal

pub returns-clause-valid : goal.returns-clause-valid
returns-clause-valid c = planned_are_valid

pub returns-clause-plain : goal.returns-clause-plain
returns-clause-plain c = plain_are_few
