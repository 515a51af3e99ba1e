use Rattle.plan_check.proofs.Common.{IfOk-weaker, subst, IsPlanVerdict, PlanListingVerdict}
use Rattle.plan_check.proofs.listing.check_plan_listing.Goals as goal

pub returns-clause-only : goal.returns-clause-only
returns-clause-only c =
    let k = c.args.task.now in
    let steps = c.args.listing.now in
    IfOk-weaker c.check_steps.result _ _
    (λ v h other is. c.one_plan_verdict.ensures k steps other v c.requires.task c.requires.quick c.requires.listing is h) c.check_steps.ensures

pub returns-clause-encloses : goal.returns-clause-encloses
returns-clause-encloses c =
    let k = c.args.task.now in
    let steps = c.args.listing.now in
    let V : PlanListingVerdict → Type 0 = IsPlanVerdict k steps in
    IfOk-weaker c.check_steps.result _ _
    (λ v h e. c.certified_plans_enclose.ensures.pairs k steps c.requires.task c.requires.quick c.requires.listing (subst V e h)) c.check_steps.ensures

pub returns-clause-base : goal.returns-clause-base
returns-clause-base c =
    let k = c.args.task.now in
    let steps = c.args.listing.now in
    let V : PlanListingVerdict → Type 0 = IsPlanVerdict k steps in
    IfOk-weaker c.check_steps.result _ _
    (λ v h e. c.certified_plans_enclose.ensures.base k steps c.requires.task c.requires.quick c.requires.listing (subst V e h)) c.check_steps.ensures

pub returns-clause-planned : goal.returns-clause-planned
returns-clause-planned c =
    let k = c.args.task.now in
    let steps = c.args.listing.now in
    let V : PlanListingVerdict → Type 0 = IsPlanVerdict k steps in
    IfOk-weaker c.check_steps.result _ _
    (λ v h e. c.certified_plans_enclose.ensures.planned k steps c.requires.task c.requires.quick c.requires.listing (subst V e h)) c.check_steps.ensures
