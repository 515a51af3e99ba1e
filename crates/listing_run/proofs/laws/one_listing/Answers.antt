use Rattle.listing_run.proofs.Unique.{laws_of, one_listing, excludes_refusal, closed_listing, refusals_one}
use Rattle.listing_run.proofs.laws.one_listing.Goals as goal

pub returns : goal.returns
returns c =
    let laws = laws_of c.start_heads.ensures.one c.start_heads.ensures.fit c.one_step.ensures c.no_step_beside_a_refusal.ensures c.one_refusal.ensures c.heads_fit.ensures in
    record { one = one_listing laws; bound = excludes_refusal laws; closed = closed_listing laws; refusal = refusals_one laws }
