use Rattle.deck_span.proofs.Common.{cell_count, layer_size, properties}
use Rattle.deck_span.proofs.Finding.{layers_found, properties_rest}
use Rattle.deck_span.proofs.once.properties_apart.Goals as goal

pub returns : goal.returns
returns c =
    let a = c.args.a.now in
    let b = c.args.b.now in
    properties_rest a b c.place_apart.result c.if-not-are_options_same.ensures
    (layers_found (layer_size b.grid) (cell_count b.grid) c.layer_size.result c.cell_count.result (properties a)
    (properties b) c.property_place.result c.place_apart.result c.layer_size.ensures.size c.cell_count.ensures.count c.place_apart.ensures
    c.property_place.ensures)
