use Rattle.gentle_run.proofs.Common.{ℕ, subst, IsVerdict, IfOk-weaker, GentleVerdict, IfOk, option_map}
use Rattle.gentle_run.proofs.listing.check_listing.Goals as goal

pub returns-clause-only : goal.returns-clause-only
returns-clause-only c =
    let m = c.args.model.now in
    let w = c.args.layers.now in
    let all = c.args.listing.now in
    let zones = option_map (λ z. z.now) c.args.zones in
    IfOk-weaker c.check_steps.result _ _
    (λ v h other k. let D : ℕ → Type 0 = λ n. IsVerdict m w n zones all v in
    c.one_verdict.ensures m w c.args.s zones all other v c.requires.model c.requires.yields c.requires.listing k (subst D c.in_ok-tables.ensures.digits h)) c.check_steps.ensures

pub returns-clause-encloses : goal.returns-clause-encloses
returns-clause-encloses c =
    let m = c.args.model.now in
    let w = c.args.layers.now in
    let all = c.args.listing.now in
    let zones = option_map (λ z. z.now) c.args.zones in
    IfOk-weaker c.check_steps.result _ _
    (λ v h e. let D : ℕ → Type 0 = λ n. IsVerdict m w n zones all v in
    c.certified_is_enclosed.ensures c.args.s m w zones all c.requires.model c.requires.yields c.requires.listing
    (subst (IsVerdict m w c.args.s zones all) e (subst D c.in_ok-tables.ensures.digits h))) c.check_steps.ensures
