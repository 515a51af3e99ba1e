use Rattle.std.proofs.Common.{arith}
use Rattle.conductance_bounds.proofs.{Capped.small_encloses, StorageBounds.branch_encloses, StorageBounds.grown_power, StorageBounds.grown_sum}
use Rattle.conductance_bounds.proofs.storage.storage_branch.Goals as goal

pub times-requires-clause-near : goal.times-requires-clause-near
times-requires-clause-near c = omega (arith, c.times-capacity.ensures.reach, c.storativity.ensures.reach, c.area.ensures.reach, c.factor-sum.ensures.reach 5000 c.requires.factors.sum)

pub times-requires-2-clause-near : goal.times-requires-2-clause-near
times-requires-2-clause-near c = omega (arith, c.exact_span.ensures.reach, c.factor-power.ensures.reach 4000 c.requires.factors.power)

pub over-requires-clause-near : goal.over-requires-clause-near
over-requires-clause-near c = omega (
  arith,
  c.times-capacity.ensures.reach,
  c.storativity.ensures.reach,
  c.area.ensures.reach,
  c.times.ensures.reach,
  c.times-2.ensures.reach,
  c.exact_span.ensures.reach,
  c.factor-sum.ensures.reach 5000 c.requires.factors.sum,
  c.factor-power.ensures.reach 4000 c.requires.factors.power,
)

pub returns-clause-rounded : goal.returns-clause-rounded
returns-clause-rounded c = λ t steps n f grown. c.rounded_pair.ensures.bounds _
    (c.over.ensures.bounds _ _ (c.times.ensures.bounds _ _ (c.times-capacity.ensures.bounds _ _ (c.storativity.ensures.bounds f) c.area.ensures.bounds)
    (let sum = grown_sum t steps n c.args.factors.now grown in c.factor-sum.ensures.bounds _ sum.lower sum.upper))
    (c.times-2.ensures.bounds _ _ c.exact_span.ensures.bounds (let power = grown_power t steps n c.args.factors.now grown in c.factor-power.ensures.bounds _ power.lower power.upper)))

pub returns-clause-encloses : goal.returns-clause-encloses
returns-clause-encloses c = λ t steps n f some growth grown within.
    small_encloses _ c.args.s _ _ (returns-clause-rounded c t steps n f grown)
    (branch_encloses c.args.ss c.args.thick c.args.delr c.args.delc t steps n c.args.perlen f c.args.s c.requires.perlen some growth within)
