use Rattle.plan_run.proofs.Common.{IsCutPlanListing, IsPlanListing, lacks_at_first}
use Rattle.plan_run.proofs.putting.put_plan_steps.Goals as goal

pub returns-in_default : goal.returns-in_default
returns-in_default g c = λ start puts h.
    let m = c.put_memory.ensures start puts h in
    (m.0, m.1, lacks_at_first (IsPlanListing c.args.task.now) (IsCutPlanListing c.args.task.now) c.put_memory.result m.0 m.2)
