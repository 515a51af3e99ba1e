use Rattle.deck_span.proofs.Finding.{grid_rest}
use Rattle.deck_span.proofs.once.grid_apart.Goals as goal

pub returns : goal.returns
returns c =
    grid_rest c.args.a.now c.args.b.now c.as_slice.result.now c.as_slice-2.result.now c.bottoms_apart.result c.as_slice.ensures c.as_slice-2.ensures
    c.if-not-are_sizes_same.ensures c.in_ok-list_apart.ensures c.bottoms_apart.ensures
