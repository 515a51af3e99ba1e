use Rattle.decimal_input.specs.{size}
use Rattle.conductance_bounds.proofs.StorageBounds.{factors_are}
use Rattle.conductance_bounds.proofs.storage.step_factors.Goals as goal

pub returns-clause-grown : goal.returns-clause-grown
returns-clause-grown c = factors_are (size c.args.tsmult) c.args.nstp c.args.step _ c.sum_of-sum.ensures.bounds c.power_of-power.ensures.bounds
