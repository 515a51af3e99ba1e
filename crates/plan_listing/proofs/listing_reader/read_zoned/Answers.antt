use Rattle.plan_listing.proofs.Common.{ℕ, List, Option, subst, pairs_in, Has}
unfoldable use Rattle.plan_listing.specs.{plan_listing_at}
use Rattle.plan_listing.proofs.listing_reader.read_zoned.Goals as goal

pub returns : goal.returns
returns c =
    let L : Option (List ℕ) → Type 0 = λ z. Has (λ v. v.items) c.read_lines.result (plan_listing_at c.args.between c.args.model.now c.args.s (pairs_in c.args.model.now z) c.args.lines.now) in
    subst L c.in_ok-pairs.ensures.zones c.read_lines.ensures
