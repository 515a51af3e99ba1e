use Rattle.deck_span.proofs.Common.{no_number, AreRatesAlike}
use Rattle.deck_span.proofs.Layers.{zip_more_at}
use Rattle.deck_span.proofs.lists.first_idle_apart.Goals as goal

pub loop-i-preserved : goal.loop-i-preserved
loop-i-preserved c = zip_more_at AreRatesAlike c.args.xs.now c.args.ys.now c.loop-i.i no_number no_number c.loop-i-test.true c.requires.long c.loop-i.invariant c.if-not-are_rates_alike.ensures
