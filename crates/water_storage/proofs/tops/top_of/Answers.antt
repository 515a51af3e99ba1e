use Rattle.water_storage.proofs.Common.{FitsSigned, rules, to_z-of_z, w128, number, ℤ, ◌≡◌, ◌^◌, ◌<◌, sym, subst, top_at, unsigned_abs, Dec, IsDec, IsSignedCeiling, IsSignedFloor, bottom_at, Lower}
use Rattle.water_storage.proofs.Common.{Upper}
use Rattle.problem_builder.proofs.Elevations.{top_valid}
use Rattle.water_storage.proofs.Elevations.{ceiling_small, floor_small, top_is}
unfoldable use Rattle.conductance_bounds.specs.{units_at}
use Rattle.water_storage.proofs.tops.top_of.Goals as goal

pub floor_of-requires-clause-number : goal.floor_of-requires-clause-number
floor_of-requires-clause-number c = subst IsDec (sym c.top_at-top.ensures) (top_valid c.args.model.now c.args.cell c.requires.model)

pub floor_of-requires-clause-small : goal.floor_of-requires-clause-small
floor_of-requires-clause-small c =
    let m = c.args.model.now in
    let thick = (c.requires.model.cells c.args.cell c.requires.cell c.requires.active).thick in
    subst (λ (x : Dec). (z : ℤ) → IsSignedFloor z (number x) 9 → unsigned_abs z < 2 ^ 126) (sym c.top_at-top.ensures)
    (floor_small (top_at m c.args.cell) (bottom_at m c.args.cell) thick)

pub ceiling_of-requires-clause-number : goal.ceiling_of-requires-clause-number
ceiling_of-requires-clause-number c = subst IsDec (sym c.top_at-top.ensures) (top_valid c.args.model.now c.args.cell c.requires.model)

pub ceiling_of-requires-clause-small : goal.ceiling_of-requires-clause-small
ceiling_of-requires-clause-small c =
    let m = c.args.model.now in
    let thick = (c.requires.model.cells c.args.cell c.requires.cell c.requires.active).thick in
    subst (λ (x : Dec). (z : ℤ) → IsSignedCeiling z (number x) 9 → unsigned_abs z < 2 ^ 126) (sym c.top_at-top.ensures)
    (ceiling_small (top_at m c.args.cell) (bottom_at m c.args.cell) thick)

pub returns-clause-top : goal.returns-clause-top
returns-clause-top c =
    let p : FitsSigned w128 c.floor_of.result = search rules in
    let q : FitsSigned w128 c.ceiling_of.result = search rules in
    let lo : c.floor_of.result ≡ units_at Lower c.top_at-top.result 9 = search rules in
    let hi : c.ceiling_of.result ≡ units_at Upper c.top_at-top.result 9 = search rules in
    simp to_z-of_z (rw (lo, hi) (top_is c.top_at-top.result))
