use Rattle.batch_book.proofs.Common.{◌≡◌, rules, true, false, is_none}
use Rattle.batch_book.proofs.Placed.{has_more}
use Rattle.batch_book.proofs.places.first_empty.Goals as goal

pub loop-place-preserved : goal.loop-place-preserved
loop-place-preserved g c =
    let there : is_none c.index-places-place.result ≡ false = search rules in
    has_more c.args.places.now c.loop-place.place _ c.loop-place-test.true c.index-places-place.is there c.loop-place.invariant
