use Rattle.listing_run.proofs.Moves.{wide_listings}
use Rattle.listing_run.proofs.laws.wide_keeps_listings.Goals as goal

pub returns : goal.returns
returns c = wide_listings c.wide_keeps_steps.ensures
