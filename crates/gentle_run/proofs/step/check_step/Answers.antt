use Rattle.gentle_run.proofs.Common.{ListedStep, IfErr-weaker, err_from_is_err_and, option_map}
use Rattle.gentle_run.proofs.Faults.{fails_by_flows, fails_by_heads, fails_by_terms}
use Rattle.gentle_run.proofs.step.check_step.Goals as goal

pub returns-in_err-posed-clause-fails : goal.returns-in_err-posed-clause-fails
returns-in_err-posed-clause-fails c =
    let p = err_from_is_err_and c.from_residual-in_err-posed.result c.from_residual-in_err-posed.ensures.1 in
    let x : ListedStep = record { heads = c.args.heads.now; budget = c.args.listed.now; zones = c.args.flows.now } in
    rw (p.1, p.2) (fails_by_heads c.args.model.now c.args.layers.now c.args.tables.now.digits (option_map (λ z. z.now) c.args.zones) c.args.at c.args.old.now x
    c.in_err-posed.field-0.0 c.in_err-posed.ensures.fails)

pub returns-in_err-test_terms-clause-fails : goal.returns-in_err-test_terms-clause-fails
returns-in_err-test_terms-clause-fails c =
    let p = err_from_is_err_and c.from_residual-in_err-test_terms.result c.from_residual-in_err-test_terms.ensures.1 in
    let x : ListedStep = record { heads = c.args.heads.now; budget = c.args.listed.now; zones = c.args.flows.now } in
    rw (p.1, p.2) (fails_by_terms c.args.model.now c.args.layers.now c.args.tables.now.digits (option_map (λ z. z.now) c.args.zones) c.args.at c.args.old.now x
    c.in_ok-posed.posed.low c.in_ok-posed.posed.high c.in_ok-posed.ensures.holds c.in_err-test_terms.field-0.0 c.in_err-test_terms.ensures.fails)

pub returns-clause-fails : goal.returns-clause-fails
returns-clause-fails c =
    let x : ListedStep = record { heads = c.args.heads.now; budget = c.args.listed.now; zones = c.args.flows.now } in
    IfErr-weaker c.test_flows.result _ _ (fails_by_flows c.args.model.now c.args.layers.now c.args.tables.now.digits (option_map (λ z. z.now) c.args.zones) c.args.at
    c.args.old.now x c.in_ok-posed.posed.low c.in_ok-posed.posed.high c.in_ok-test_terms.ensures.covers) c.test_flows.ensures.fails
