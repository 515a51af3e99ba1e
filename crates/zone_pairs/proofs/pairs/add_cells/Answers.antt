use Rattle.zone_pairs.proofs.Common.{◌≡◌, ◌∙◌, ℕ, Bool, ap, sym, arith, list_any, faces, share_face, variable_below, joins_by, ZonePair, cell_count}
use Rattle.zone_pairs.proofs.Gains.{gains_cell, gains_no_cell, gains_nothing, gains_same}
use Rattle.zone_pairs.proofs.pairs.add_cells.Goals.{then-is_variable+in_ok-add_cell, else-is_variable}
use Rattle.zone_pairs.proofs.pairs.add_cells.Goals as goal

pub loop-cell-init : goal.loop-cell-init
unfolding variable_below
loop-cell-init c = gains_nothing c.args.keys.now

pub loop-cell-preserved : goal.loop-cell-preserved
loop-cell-preserved c =
    let m = c.args.model.now in
    let p = c.args.given.now.period in
    let x = c.loop-cell.cell in
    let has_face : ZonePair → ℕ → Bool = λ z cell. list_any (joins_by m c.args.zones.now z cell) (faces m.grid cell) in
    elim c.if-is_variable.branch [
      | then-is_variable+in_ok-add_cell w ↦ rw w.keys-is (gains_cell m p c.args.keys.now c.loop-cell.keys has_face x c.loop-cell.invariant _
          (sym c.is_variable.ensures ∙ w.if-is_variable.true) w.in_ok-add_cell.ensures)
      | else-is_variable w ↦ rw w.keys-is (gains_no_cell m p c.args.keys.now c.loop-cell.keys has_face x c.loop-cell.invariant (sym c.is_variable.ensures ∙ w.if-is_variable.false))
    ]

pub returns : goal.returns
unfolding share_face
returns c =
    let m = c.args.model.now in
    let p = c.args.given.now.period in
    let has_face : ZonePair → ℕ → Bool = λ z cell. list_any (joins_by m c.args.zones.now z cell) (faces m.grid cell) in
    let all : c.loop-cell.cell ≡ cell_count m.grid = omega (arith, c.loop-cell-test.false, c.cell_count-cell-end.ensures.count) in
    gains_same c.args.keys.now c.loop-cell.keys (λ z. list_any (has_face z) (variable_below m p c.loop-cell.cell)) (λ z.
    list_any (has_face z) (variable_below m p (cell_count m.grid))) (λ z. ap (λ n. list_any (has_face z) (variable_below m p n)) all) c.loop-cell.invariant
