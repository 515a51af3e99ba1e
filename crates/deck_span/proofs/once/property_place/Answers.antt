use Rattle.std.proofs.Common.{[], ◌∷◌}
use Rattle.deck_span.proofs.Layers.{found_one, found_step}
use Rattle.deck_span.proofs.once.property_place.Goals as goal

pub returns : goal.returns
returns c =
    let a = c.args.a.now in
    let b = c.args.b.now in
    let size = c.args.layer_size in
    let beds = found_one size a.vkcb b.vkcb c.as_slice-9.result.now c.as_slice-10.result.now c.first_apart-vkcb.result c.as_slice-9.ensures c.as_slice-10.ensures c.first_apart-vkcb.ensures in
    let storage = found_step size a.ss b.ss c.as_slice-7.result.now c.as_slice-8.result.now (a.vkcb ∷ [])
    (b.vkcb ∷ []) c.first_apart-ss.result c.first_apart-vkcb.result c.earlier_place-storage.result c.as_slice-7.ensures c.as_slice-8.ensures
    c.earlier_place-storage.ensures c.first_apart-ss.ensures beds in
    let vertical = found_step size a.vka b.vka c.as_slice-5.result.now c.as_slice-6.result.now (a.ss ∷ a.vkcb ∷ [])
    (b.ss ∷ b.vkcb ∷ []) c.first_apart-vka.result c.earlier_place-storage.result c.earlier_place-vertical.result c.as_slice-5.ensures
    c.as_slice-6.ensures c.earlier_place-vertical.ensures c.first_apart-vka.ensures storage in
    let across = found_step size a.hani b.hani c.as_slice-3.result.now c.as_slice-4.result.now (a.vka ∷ a.ss ∷ a.vkcb ∷ [])
    (b.vka ∷ b.ss ∷ b.vkcb ∷ []) c.first_apart-hani.result c.earlier_place-vertical.result c.earlier_place-across.result c.as_slice-3.ensures
    c.as_slice-4.ensures c.earlier_place-across.ensures c.first_apart-hani.ensures vertical in
    found_step size a.hk b.hk c.as_slice.result.now c.as_slice-2.result.now (a.hani ∷ a.vka ∷ a.ss ∷ a.vkcb ∷ [])
    (b.hani ∷ b.vka ∷ b.ss ∷ b.vkcb ∷ []) c.first_apart-hk.result c.earlier_place-across.result c.earlier_place.result c.as_slice.ensures
    c.as_slice-2.ensures c.earlier_place.ensures c.first_apart-hk.ensures across
