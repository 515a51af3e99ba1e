use Rattle.engine.proofs.Common.{◌≡◌, List, NeverCut, lacks_at_first, lone_line_is_run, refl, Status, Put, IsEnd, IsRun, PlanTask, EnclosesPairs, HaveOneHistory, IsPlanCheck, plan_verdict_line}
use Rattle.engine.proofs.Common.{plan_verdict_status, PlanListingVerdict, IsPlanVerdict, ListedPlanStep}
use Rattle.engine.proofs.Ends.{puts_more}
use Rattle.plan_check.specs.declared.verdict.PlanListingVerdict.TheVariants.{Certified}
use Rattle.engine.proofs.plan_checking.put_plan_check.Goals as goal

puts_verdict : (k : PlanTask) (steps : List ListedPlanStep) (v : PlanListingVerdict) (end : Status) (puts : List Put) → IsPlanVerdict k steps v →
    (v ≡ Certified → EnclosesPairs k steps) → (v ≡ Certified → HaveOneHistory k.base) → (v ≡ Certified → HaveOneHistory k.planned) →
    IsEnd (plan_verdict_line k.base.first.grid v) (plan_verdict_status v) end puts → IsRun (IsPlanCheck k steps) NeverCut end puts
puts_verdict k steps v end puts is encloses base planned h =
    lone_line_is_run (IsPlanCheck k steps) NeverCut (plan_verdict_line k.base.first.grid v) (plan_verdict_status v) end puts
    (record { verdict = v; is = is; encloses = encloses; base = base; planned = planned; status = refl; are = refl }) h

pub returns-in-Ok : goal.returns-in-Ok
returns-in-Ok g c =
    let v = c.in-Ok.ensures in
    puts_more g.K.Sink.leads c.put_plan_verdict.ensures (λ more p.
    puts_verdict c.args.task.now c.args.listing.now c.in-Ok.verdict c.put_plan_verdict.result more v.verdict v.encloses v.base v.planned p)

pub returns-in-Err : goal.returns-in-Err
returns-in-Err g c = puts_more g.K.Sink.leads c.put_memory.ensures (λ more m.
    lacks_at_first (IsPlanCheck c.args.task.now c.args.listing.now) NeverCut c.put_memory.result more m)
