use Rattle.water_conductances.proofs.Common.{FitsSigned, rules, arith, ap, ◌≡◌, ◌≤◌, ◌^◌, ◌*ℤ◌, ◌-ℤ◌, ◌∙◌, ℤ, pos, neg_ℤ, sym, subst, ints, to_z-of_z, int_min, w128, w64, Lower, Upper, unsigned_abs}
use Rattle.water_conductances.proofs.Common.{Dec, IsDec, IsSignedCeiling, IsSignedFloor, number, bottom_at, top_at, bottom_valid, top_valid}
use Rattle.water_conductances.proofs.Units.{bottom_floor, top_ceiling}
unfoldable use Rattle.conductance_bounds.specs.{units_at}
use Rattle.water_conductances.proofs.spans.most_units.Goals as goal

pub ceiling_of-top-requires-clause-number : goal.ceiling_of-top-requires-clause-number
ceiling_of-top-requires-clause-number c = subst IsDec (sym c.top_at.ensures) (top_valid c.args.model.now c.args.cell c.requires.model)

pub ceiling_of-top-requires-clause-high : goal.ceiling_of-top-requires-clause-high
ceiling_of-top-requires-clause-high c =
    let m = c.args.model.now in
    let thick = (c.requires.model.cells c.args.cell c.requires.cell c.requires.active).thick in
    subst (λ (x : Dec). (z : ℤ) → IsSignedCeiling z (number x) 18 → 2 ^ 126 ≤ unsigned_abs z → z ≡ pos (2 ^ 126)) (sym c.top_at.ensures)
    (top_ceiling (top_at m c.args.cell) (bottom_at m c.args.cell) thick)

pub floor_of-bottom-requires-clause-number : goal.floor_of-bottom-requires-clause-number
floor_of-bottom-requires-clause-number c = subst IsDec (sym c.bottom_at.ensures) (bottom_valid c.args.model.now c.args.cell c.requires.model)

pub floor_of-bottom-requires-clause-low : goal.floor_of-bottom-requires-clause-low
floor_of-bottom-requires-clause-low c =
    let m = c.args.model.now in
    let thick = (c.requires.model.cells c.args.cell c.requires.cell c.requires.active).thick in
    subst (λ (x : Dec). (z : ℤ) → IsSignedFloor z (number x) 18 → 2 ^ 126 ≤ unsigned_abs z → z ≡ neg_ℤ (pos (2 ^ 126))) (sym c.bottom_at.ensures)
    (bottom_floor (top_at m c.args.cell) (bottom_at m c.args.cell) thick)

pub overflow_sub-result : goal.overflow_sub-result
overflow_sub-result c =
    let p : FitsSigned w128 c.lower_of.result = search rules in
    let q : FitsSigned w128 c.floor_of-bottom.result = search rules in
    let r = c.lower_of.ensures.range in
    let s = c.floor_of-bottom.ensures.range in
    simp to_z-of_z (omega (arith, ints, r.above, c.lower_of.ensures.most, s.above, s.below))

pub returns : goal.returns
returns c =
    let p : FitsSigned w128 c.lower_of.result = search rules in
    let q : FitsSigned w128 c.floor_of-bottom.result = search rules in
    let r = c.lower_of.ensures.range in
    let s = c.floor_of-bottom.ensures.range in
    let both : FitsSigned w128 (c.lower_of.result -ℤ c.floor_of-bottom.result) = omega (arith, ints, r.above, c.lower_of.ensures.most, s.above, s.below) in
    let x : FitsSigned w128 c.ceiling_of-top.result = search rules in
    let y : FitsSigned w64 c.bound_at.result.high = search rules in
    let v : c.lower_of.result ≡ int_min (c.bound_at.result.high *ℤ pos (10 ^ 9)) c.ceiling_of-top.result = simp to_z-of_z at c.lower_of.ensures.value in
    let top = c.ceiling_of-top.ensures.ceiling ∙ ap (λ (d : Dec). units_at Upper d 18) c.top_at.ensures in
    let bottom = c.floor_of-bottom.ensures.floor ∙ ap (λ (d : Dec). units_at Lower d 18) c.bottom_at.ensures in
    let lower = v ∙ (λ i. int_min ((c.bound_at.ensures i).high *ℤ pos (10 ^ 9)) (top i)) in
    simp to_z-of_z (λ i. lower i -ℤ bottom i)
