use Rattle.plan_check.proofs.Common.{List, Ok, Option, map, refl, subst, sym, ℕ, ◌∙◌, ◌≡◌, ap, IfErr-weaker, IfOk-weaker, ZoneFlow, zones_of_flow, at_source}
use Rattle.plan_check.proofs.Holding.{zones_fail, zones_hold}
unfoldable use Rattle.plan_sources.specs.{flows_of}
use Rattle.plan_check.proofs.flows.test_flows.Goals as goal

pub returns-in-Some-clause-fault : goal.returns-in-Some-clause-fault
returns-in-Some-clause-fault c =
    let F : Option (List ℕ) → Type 0 = λ z. flows_of c.args.solved.now z ≡ Ok c.in_ok-computed.computed in
    at_source c.in_ok-computed.computed c.in-Some.ensures.0 c.in-Some.term (subst F c.zone_slice.ensures c.in_ok-computed.ensures.value) c.in-Some.ensures.1 refl

pub test_zones-requires : goal.test_zones-requires
test_zones-requires c =
    let F : Option (List ℕ) → Type 0 = λ z. flows_of c.args.solved.now z ≡ Ok c.in_ok-computed.computed in
    record {
      zones = ap (λ (zs : List ZoneFlow). map zones_of_flow zs) c.as_slice.ensures
          ∙ c.requires.pairs c.in_ok-computed.computed (subst F c.zone_slice.ensures c.in_ok-computed.ensures.value)
          ∙ ap (λ (zs : List ZoneFlow). map zones_of_flow zs) (sym c.as_slice-2.ensures);
    }

pub returns-clause-wide : goal.returns-clause-wide
returns-clause-wide c =
    let F : Option (List ℕ) → Type 0 = λ z. flows_of c.args.solved.now z ≡ Ok c.in_ok-computed.computed in
    IfOk-weaker c.test_zones.result _ _
    (λ u wide. zones_hold c.args.task.now c.args.solved.now c.args.listed.now c.in_ok-computed.computed
    (record { are = subst F c.zone_slice.ensures c.in_ok-computed.ensures.value; covers = c.in_default.ensures }) _ _ c.as_slice.ensures c.as_slice-2.ensures wide)
    c.test_zones.ensures.wide

pub returns-clause-fault : goal.returns-clause-fault
returns-clause-fault c =
    let F : Option (List ℕ) → Type 0 = λ z. flows_of c.args.solved.now z ≡ Ok c.in_ok-computed.computed in
    IfErr-weaker c.test_zones.result _ _
    (λ e narrow. zones_fail c.args.task.now c.args.solved.now c.args.listed.now c.in_ok-computed.computed
    (record { are = subst F c.zone_slice.ensures c.in_ok-computed.ensures.value; covers = c.in_default.ensures }) _ _ c.as_slice.ensures c.as_slice-2.ensures e narrow)
    c.test_zones.ensures.narrow
