use Rattle.listing_io.proofs.Common.{ℕ, List, Option, subst, pairs_in, Has, steps_to_end}
use Rattle.listing_io.proofs.listing_reader.read_zoned.Goals as goal

pub returns : goal.returns
returns c =
    let L : Option (List ℕ) → Type 0 = λ z. Has (λ v. v.items) c.read_to_end.result (steps_to_end c.args.model.now c.args.s (pairs_in c.args.model.now z) c.args.lines.now) in
    subst L c.in_ok-pairs.ensures.zones c.read_to_end.ensures
