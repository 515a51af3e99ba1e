use Rattle.plan_wells.proofs.Common.{◌≡◌, with_wells}
use Rattle.plan_wells.proofs.PutInPlace.{put_first}
use Rattle.plan_wells.proofs.planned.add_wells.Given as goal

abbrev pub invariant-loop-i : goal.invariant-loop-i
invariant-loop-i l = l.periods ≡ put_first with_wells l.i l.initial.periods l.lists
