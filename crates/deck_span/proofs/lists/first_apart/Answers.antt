use Rattle.deck_span.proofs.Layers.{zip_more}
use Rattle.deck_span.proofs.lists.first_apart.Goals as goal

pub loop-i-preserved : goal.loop-i-preserved
loop-i-preserved g c = zip_more g.T.Compared.alike c.args.xs.now c.args.ys.now c.loop-i.i c.index-xs-i.result c.index-ys-i.result c.loop-i-test.true
    c.requires.long c.index-xs-i.is c.index-ys-i.is c.loop-i.invariant c.if-not-is_alike.ensures
