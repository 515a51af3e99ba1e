use Rattle.deck_span.proofs.Common.{cell_count, layer_size, bottoms}
use Rattle.deck_span.proofs.Finding.{layers_found}
use Rattle.deck_span.proofs.once.bottoms_apart.Goals as goal

pub returns : goal.returns
returns c =
    layers_found (layer_size c.args.b.now) (cell_count c.args.b.now) c.layer_size.result c.cell_count.result (bottoms c.args.a.now)
    (bottoms c.args.b.now) c.bottom_place.result c.place_apart.result c.layer_size.ensures.size c.cell_count.ensures.count c.place_apart.ensures
    c.bottom_place.ensures
