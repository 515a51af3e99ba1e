use Rattle.problem_builder.proofs.Common.{◌≡◌, ◌+◌, suc, ap, arith, ◌∙◌, FitsSigned, ◌||◌, ◌&&◌, w64, to_z-of_z, layer_of, place_in_layer, int_at, is_int}
use Rattle.problem_builder.proofs.chosen.is_chosen.Goals as goal

pub returns : goal.returns
returns c =
    let m = c.args.model.now in
    let fits : FitsSigned w64 c.args.option = c.ranges.option in
    let first = simp to_z-of_z at c.is_in_first-first.ensures in
    let named = simp to_z-of_z at c.is_named-second.ensures in
    let top = simp to_z-of_z at c.is_top-third.ensures in
    let second = named ∙ ap (λ k. is_int c.args.option 2 && is_int (int_at c.args.layers.now (place_in_layer m.grid c.args.cell)) k)
    (let e : layer_of m.grid c.args.cell + 1 ≡ suc (layer_of m.grid c.args.cell) = omega arith in e) in
    c.any.ensures ∙ (λ t. first t || second t || top t)
