use Rattle.plan_check.proofs.Common.{List, refl, subst, sym, ◌∙◌, IfErr-weaker, IfOk-weaker, Bound, certified, AreGridHeads, base_is, planned_is, same_count, step_fits, DifferencesFailBy}
use Rattle.plan_check.proofs.Common.{DifferencesHold, lent_heads}
use Rattle.plan_run.proofs.Faces.{flows_listed}
use Rattle.plan_check.proofs.{Holding.differences_fail, Holding.flows_fail, Listed.listed_fit, Wider.deck_cells, Wider.holds_step, Wider.pairs_are}
use Rattle.plan_check.proofs.step.check_rest.Goals as goal

pub check_differences-requires-clause-as_many : goal.check_differences-requires-clause-as_many
check_differences-requires-clause-as_many c =
    let k = c.args.task.now in
    let old = lent_heads c.args.old in
    let pairs = pairs_are k c.requires.quick in
    same_count k c.args.at old c.requires.task c.args.base c.args.planned
    (base_is k c.args.at old certified old.base c.args.base pairs refl c.requires.base.step)
    (planned_is k c.args.at old certified old.planned c.args.planned pairs refl c.requires.planned.step)

pub check_differences-requires-clause-cells : goal.check_differences-requires-clause-cells
check_differences-requires-clause-cells c =
    let k = c.args.task.now in
    deck_cells k.base k.digits c.args.at (lent_heads c.args.old).base c.args.base.problem c.requires.task.base c.requires.base.step.posed.problem

pub check_differences-requires-clause-old : goal.check_differences-requires-clause-old
check_differences-requires-clause-old c = c.requires.old.differences.range

pub check_differences-requires-clause-listed : goal.check_differences-requires-clause-listed
check_differences-requires-clause-listed c =
    let k = c.args.task.now in
    subst (AreGridHeads k.base.first) (sym c.as_slice.ensures) (listed_fit k c.requires.task c.args.at c.args.listed.now _ c.requires.listed).differences

pub test_flows-tested-requires-clause-step : goal.test_flows-tested-requires-clause-step
test_flows-tested-requires-clause-step c =
    let k = c.args.task.now in
    let at = c.args.at in
    let old = lent_heads c.args.old in
    let x = c.args.listed.now in
    let D : List Bound → Type 0 = λ ds. DifferencesHold k at c.args.base c.args.planned old.differences ds c.in-Ok.differences in
    let step = holds_step k c.requires.quick at old x _ (record { base = c.requires.base; planned = c.requires.planned; differences = subst D c.as_slice.ensures c.in-Ok.ensures.step }) in
    c.plan_steps_have_flows.ensures k at old _ c.requires.task c.requires.time c.requires.old step
    (step_fits c.plan_steps_enclose.ensures c.heads_fit.ensures k c.requires.task at old _ c.requires.time c.requires.old step)

pub test_flows-tested-requires-clause-pairs : goal.test_flows-tested-requires-clause-pairs
test_flows-tested-requires-clause-pairs c = λ flows are.
    let k = c.args.task.now in
    let at = c.args.at in
    let old = lent_heads c.args.old in
    let x = c.args.listed.now in
    let D : List Bound → Type 0 = λ ds. DifferencesHold k at c.args.base c.args.planned old.differences ds c.in-Ok.differences in
    let step = holds_step k c.requires.quick at old x _ (record { base = c.requires.base; planned = c.requires.planned; differences = subst D c.as_slice.ensures c.in-Ok.ensures.step }) in
    c.requires.listed.zones.pairs ∙ sym (flows_listed k c.requires.task at old _ step flows are)

pub returns-in-Ok-clause-passes : goal.returns-in-Ok-clause-passes
returns-in-Ok-clause-passes c =
    let k = c.args.task.now in
    let old = lent_heads c.args.old in
    let D : List Bound → Type 0 = λ ds. DifferencesHold k c.args.at c.args.base c.args.planned old.differences ds c.in-Ok.differences in
    IfOk-weaker c.test_flows-tested.result _ _
    (λ u wide. record {
      solved = _;
      heads = record { base = c.requires.base; planned = c.requires.planned; differences = subst D c.as_slice.ensures c.in-Ok.ensures.step };
      flows = wide;
    })
    c.test_flows-tested.ensures.wide

pub returns-in-Ok-clause-fault : goal.returns-in-Ok-clause-fault
returns-in-Ok-clause-fault c =
    let k = c.args.task.now in
    let old = lent_heads c.args.old in
    let D : List Bound → Type 0 = λ ds. DifferencesHold k c.args.at c.args.base c.args.planned old.differences ds c.in-Ok.differences in
    IfErr-weaker c.test_flows-tested.result _ _
    (λ e f. flows_fail k c.args.at old c.args.listed.now _
    (record { base = c.requires.base; planned = c.requires.planned; differences = subst D c.as_slice.ensures c.in-Ok.ensures.step }) e f)
    c.test_flows-tested.ensures.fault

pub returns-in-Err-clause-fault : goal.returns-in-Err-clause-fault
returns-in-Err-clause-fault c =
    let k = c.args.task.now in
    let old = lent_heads c.args.old in
    let F : List Bound → Type 0 = λ ds. DifferencesFailBy k c.args.at c.args.base c.args.planned old.differences ds c.in-Err.fault in
    differences_fail k c.args.at old c.args.listed.now c.args.base c.args.planned c.requires.base c.requires.planned c.in-Err.fault
    (subst F c.as_slice.ensures c.in-Err.ensures.fault)
