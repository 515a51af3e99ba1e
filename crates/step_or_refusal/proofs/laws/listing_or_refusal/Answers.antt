use Rattle.step_or_refusal.proofs.Listing.{a_listing}
use Rattle.step_or_refusal.proofs.laws.listing_or_refusal.Goals as goal

pub returns : goal.returns
returns c = a_listing c.step_or_refusal.ensures c.heads_fit.ensures c.problems_fit.ensures c.start_heads_fit.ensures
