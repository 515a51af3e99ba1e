use Rattle.std.proofs.Common.{refl}
use Rattle.plan_chain.proofs.walk.PlanWalk.new.Goals as goal

pub returns-clause-first : goal.returns-clause-first
returns-clause-first c = record { start = c.in_ok-heads.ensures.start; done = refl }
