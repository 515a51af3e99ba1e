use Rattle.flow_equations.proofs.StepSums.{manual_steps}
use Rattle.flow_equations.proofs.times.steps_of_a_period.Goals as goal

pub returns : goal.returns
returns c p h = manual_steps p h
