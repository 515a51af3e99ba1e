use Rattle.check_run.proofs.Common.{◌∙◌, List, option_map, subst, sym, arith, err_from_is_err_and, Bound, AreWords, digits_of, IsCovered, IsUncovered, cut_by, IfErr-weaker, IfOk-weaker}
use Rattle.check_run.proofs.{FlowPairs.flows_have_pairs, RunText.are_words, RunText.id_within, Outcomes.constant_fails, Outcomes.step_moves, Outcomes.step_passes, Outcomes.term_fails}
use Rattle.check_run.proofs.{Outcomes.variable_fails, Outcomes.zones_fail}
use Rattle.check_run.proofs.step.check_listed.Goals as goal

pub returns-in-Some-clause-fault : goal.returns-in-Some-clause-fault
returns-in-Some-clause-fault c =
    constant_fails c.args.limits c.args.decks.now (digits_of c.args.tables.now.first)
    (option_map (λ z. z.now) c.args.zones) c.args.at c.args.old.now c.in_ok-posed.posed c.in_ok-posed.ensures.posed c.args.heads.now c.args.listed.now
    c.args.flows.now c.in-Some.cell c.in-Some.side c.in-Some.ensures

pub bounds_of-requires : goal.bounds_of-requires
bounds_of-requires c = λ k lt. omega (arith, id_within c.args.decks.now c.args.at c.args.heads.now c.in_ok-posed.posed.problem c.in_ok-posed.ensures.posed.cells k lt, c.requires.heads.whole)

pub test_heads-requires-clause-floors : goal.test_heads-requires-clause-floors
test_heads-requires-clause-floors c = let posed = c.in_ok-posed.ensures.posed in (cut_by c.args.limits c.in_ok-posed.posed.problem c.in_ok-posed.posed.barrier posed.posed.barrier).floors.whole

pub test_heads-requires-clause-ceilings : goal.test_heads-requires-clause-ceilings
test_heads-requires-clause-ceilings c = let posed = c.in_ok-posed.ensures.posed in (cut_by c.args.limits c.in_ok-posed.posed.problem c.in_ok-posed.posed.barrier posed.posed.barrier).ceilings.whole

pub test_heads-requires-clause-bounds : goal.test_heads-requires-clause-bounds
test_heads-requires-clause-bounds c =
    let x = c.in_ok-posed.posed in
    let W : List Bound → Type 0 = AreWords x.problem in
    subst W (sym (c.as_slice.ensures.value ∙ c.in_ok-bounds.ensures)) (are_words c.args.decks.now c.args.at c.args.heads.now x.problem c.in_ok-posed.ensures.posed.cells c.requires.heads)

pub returns-in_err-test_heads-clause-fault : goal.returns-in_err-test_heads-clause-fault
returns-in_err-test_heads-clause-fault c =
    let p = err_from_is_err_and c.from_residual-in_err-test_heads.result c.from_residual-in_err-test_heads.ensures.1 in
    let x = c.in_ok-posed.posed in
    let posed = c.in_ok-posed.ensures.posed in
    rw (p.1, p.2) (variable_fails c.args.limits c.args.decks.now (digits_of c.args.tables.now.first)
    (option_map (λ z. z.now) c.args.zones) c.args.at c.args.old.now x posed c.args.heads.now c.args.listed.now c.args.flows.now c.in_default.ensures
    c.in_ok-bounds.bounds.items c.as_slice.result.now c.as_slice.ensures.value c.in_ok-bounds.ensures c.in_err-test_heads.field-0.0
    c.in_err-test_heads.ensures.fails)

pub test_terms-requires : goal.test_terms-requires
test_terms-requires c =
    let x = c.in_ok-posed.posed in
    let W : List Bound → Type 0 = AreWords x.problem in
    record {
      bounds = subst W (sym (c.as_slice-2.ensures.value ∙ c.in_ok-bounds.ensures))
          (are_words c.args.decks.now c.args.at c.args.heads.now x.problem c.in_ok-posed.ensures.posed.cells c.requires.heads);
    }

pub returns-in_err-test_terms-clause-fault : goal.returns-in_err-test_terms-clause-fault
returns-in_err-test_terms-clause-fault c =
    let p = err_from_is_err_and c.from_residual-in_err-test_terms.result c.from_residual-in_err-test_terms.ensures.1 in
    let x = c.in_ok-posed.posed in
    let posed = c.in_ok-posed.ensures.posed in
    let e = c.in_err-test_terms.field-0.0 in
    let U : List Bound → Type 0 = λ v. IsUncovered x.problem v c.args.listed.now e in
    rw (p.1, p.2) (term_fails c.args.limits c.args.decks.now (digits_of c.args.tables.now.first)
    (option_map (λ z. z.now) c.args.zones) c.args.at c.args.old.now x posed c.args.heads.now c.args.listed.now c.args.flows.now c.in_default.ensures
    c.in_ok-bounds.bounds.items c.as_slice.result.now c.as_slice.ensures.value c.in_ok-bounds.ensures c.in_ok-test_heads.ensures.certificate e
    (subst U (c.as_slice-2.ensures.value ∙ sym c.as_slice.ensures.value) c.in_err-test_terms.ensures.fails))

pub test_flows-requires-clause-pairs : goal.test_flows-requires-clause-pairs
test_flows-requires-clause-pairs c = λ flows are.
    let posed = c.in_ok-posed.ensures.posed in
    c.requires.flows.pairs ∙ sym (flows_have_pairs c.args.decks.now
    (digits_of c.args.tables.now.first) c.args.at c.args.old.now c.in_ok-posed.posed.problem c.requires.decks posed.posed.problem c.args.heads.now
    (option_map (λ z. z.now) c.args.zones) flows are)

pub test_flows-requires-clause-named : goal.test_flows-requires-clause-named
test_flows-requires-clause-named c = c.in_ok-posed.ensures.posed.named

pub returns-clause-passes : goal.returns-clause-passes
returns-clause-passes c =
    let x = c.in_ok-posed.posed in
    let posed = c.in_ok-posed.ensures.posed in
    let C : List Bound → Type 0 = λ v. IsCovered x.problem v c.args.listed.now in
    IfOk-weaker c.test_flows.result _ _
    (λ u h. step_passes c.args.limits c.args.decks.now (digits_of c.args.tables.now.first)
    (option_map (λ z. z.now) c.args.zones) c.args.at c.args.old.now x posed c.args.heads.now c.args.listed.now c.args.flows.now c.in_default.ensures
    c.in_ok-bounds.bounds.items c.as_slice.result.now c.as_slice.ensures.value c.in_ok-bounds.ensures c.in_ok-test_heads.ensures.certificate
    (subst C (c.as_slice-2.ensures.value ∙ sym c.as_slice.ensures.value) c.in_ok-test_terms.ensures.covers) h)
    c.test_flows.ensures.wide

pub returns-clause-fault : goal.returns-clause-fault
returns-clause-fault c =
    let x = c.in_ok-posed.posed in
    let posed = c.in_ok-posed.ensures.posed in
    let C : List Bound → Type 0 = λ v. IsCovered x.problem v c.args.listed.now in
    IfErr-weaker c.test_flows.result _ _
    (λ e h. zones_fail c.args.limits c.args.decks.now (digits_of c.args.tables.now.first)
    (option_map (λ z. z.now) c.args.zones) c.args.at c.args.old.now x posed c.args.heads.now c.args.listed.now c.args.flows.now c.in_default.ensures
    c.in_ok-bounds.bounds.items c.as_slice.result.now c.as_slice.ensures.value c.in_ok-bounds.ensures c.in_ok-test_heads.ensures.certificate
    (subst C (c.as_slice-2.ensures.value ∙ sym c.as_slice.ensures.value) c.in_ok-test_terms.ensures.covers) e h)
    c.test_flows.ensures.fails

pub returns-clause-encloses : goal.returns-clause-encloses
returns-clause-encloses c =
    let x = c.in_ok-posed.posed in
    let posed = c.in_ok-posed.ensures.posed in
    let C : List Bound → Type 0 = λ v. IsCovered x.problem v c.args.listed.now in
    IfOk-weaker c.test_flows.result _ _
    (λ u h. step_moves c.args.limits c.args.decks.now (digits_of c.args.tables.now.first)
    (option_map (λ z. z.now) c.args.zones) c.args.at c.args.old.now x posed c.args.heads.now c.args.listed.now c.args.flows.now c.in_default.ensures
    c.in_ok-bounds.bounds.items c.as_slice.result.now c.as_slice.ensures.value c.in_ok-bounds.ensures c.requires.decks c.requires.time
    c.constant_pairs.ensures.encloses c.cover_encloses.ensures c.heads_within.ensures (c.in_ok-test_heads.ensures.encloses posed.held posed.solutions)
    (subst C (c.as_slice-2.ensures.value ∙ sym c.as_slice.ensures.value) c.in_ok-test_terms.ensures.covers) h)
    c.test_flows.ensures.wide
