use Rattle.std.proofs.Common.{[], ◌∷◌}
use Rattle.deck_span.proofs.Layers.{found_one, found_step}
use Rattle.deck_span.proofs.once.bottom_place.Goals as goal

pub returns : goal.returns
returns c =
    let a = c.args.a.now in
    let b = c.args.b.now in
    let size = c.args.layer_size in
    let beds = found_one size a.bed_bottom b.bed_bottom c.as_slice-3.result.now c.as_slice-4.result.now c.first_apart-bed.result c.as_slice-3.ensures c.as_slice-4.ensures c.first_apart-bed.ensures in
    found_step size a.bottom b.bottom c.as_slice.result.now c.as_slice-2.result.now (a.bed_bottom ∷ [])
    (b.bed_bottom ∷ []) c.first_apart-bottom.result c.first_apart-bed.result c.earlier_place.result c.as_slice.ensures c.as_slice-2.ensures
    c.earlier_place.ensures c.first_apart-bottom.ensures beds
