use Rattle.std.proofs.Common.{◌≡◌, map, take}
use Rattle.plan_wells.proofs.plan.wells_of.Given as goal

abbrev pub invariant-loop-p : goal.invariant-loop-p
invariant-loop-p l = l.lists.items ≡ map (λ p. p.stresses.wells) (take l.p-index l.periods)
