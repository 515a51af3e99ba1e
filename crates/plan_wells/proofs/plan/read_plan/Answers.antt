use Rattle.plan_wells.proofs.Common.{◌∙◌, ap, length, List, subst, sym, Entry, FlowModel, Period, IsPlan}
use Rattle.plan_wells.proofs.PlanForms.{given, is_plan, plan_reads, plan_stops}
use Rattle.plan_wells.proofs.plan.read_plan.Goals as goal

pub returns-in-Err-clause-plan : goal.returns-in-Err-clause-plan
returns-in-Err-clause-plan c = plan_stops c.args.limits c.args.file.now c.args.bytes.now c.args.model c.in_ok-parted.parted.model c.in_ok-parted.ensures.blank c.in-Err.fault c.in-Err.ensures.model

pub returns-in_ok-taken-in-Ok-clause-plan : goal.returns-in_ok-taken-in-Ok-clause-plan
returns-in_ok-taken-in-Ok-clause-plan c =
    (plan_reads c.args.limits c.args.file.now c.args.bytes.now c.args.model c.in_ok-parted.parted.model c.in_ok-parted.ensures.blank c.in-Ok.read c.in-Ok.ensures.model).0
    ∙ ap (λ (xs : List (List Entry)). given xs) (sym c.in_ok-taken-in-Ok.ensures.lists)

pub returns-in_ok-taken-in-Ok-clause-form : goal.returns-in_ok-taken-in-Ok-clause-form
returns-in_ok-taken-in-Ok-clause-form c =
    subst (λ (xs : List (List Entry)). IsPlan c.args.limits c.args.model.grid (length c.args.model.periods) xs) (sym c.in_ok-taken-in-Ok.ensures.lists)
    (is_plan c.args.limits c.args.file.now c.args.bytes.now c.args.model.grid (length c.args.model.periods) c.in-Ok.read.periods c.requires.size
    (plan_reads c.args.limits c.args.file.now c.args.bytes.now c.args.model c.in_ok-parted.parted.model c.in_ok-parted.ensures.blank c.in-Ok.read c.in-Ok.ensures.model).1)

pub returns-in_ok-taken-in-Ok-clause-same : goal.returns-in_ok-taken-in-Ok-clause-same
returns-in_ok-taken-in-Ok-clause-same c =
    let same = (plan_reads c.args.limits c.args.file.now c.args.bytes.now c.args.model c.in_ok-parted.parted.model c.in_ok-parted.ensures.blank c.in-Ok.read c.in-Ok.ensures.model).2 in
    c.in_ok-taken-in-Ok.ensures.same ∙ ap (λ (x : FlowModel). record x { periods = c.in_ok-parted.parted.periods }) same
    ∙ ap (λ (ps : List Period). record c.args.model { periods = ps }) c.in_ok-parted.ensures.periods
