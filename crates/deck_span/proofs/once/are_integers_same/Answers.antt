use Rattle.std.specs.List.{each_same}
use Rattle.deck_span.proofs.Finding.{turned_to, zip_same}
use Rattle.deck_span.proofs.once.are_integers_same.Goals as goal

pub returns : goal.returns
returns c = turned_to c.is_same.result _ _ (each_same c.args.xs.now c.args.ys.now) (zip_same c.args.xs.now c.args.ys.now) c.is_same.ensures
