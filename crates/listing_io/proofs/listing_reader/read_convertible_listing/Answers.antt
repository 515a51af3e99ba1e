use Rattle.listing_io.proofs.Common.{option_map, pairs_in}
use Rattle.listing_io.proofs.Convertible.{listed_is}
use Rattle.listing_io.proofs.listing_reader.read_convertible_listing.Goals as goal

pub returns-in-Ok-clause-listed : goal.returns-in-Ok-clause-listed
returns-in-Ok-clause-listed c = rw c.new.ensures
    (listed_is c.args.model.now c.args.s (pairs_in c.args.model.now (option_map (λ z. z.now) c.args.zones)) c.new-lines.result c.in-Ok.steps.items c.in-Ok.ensures)
