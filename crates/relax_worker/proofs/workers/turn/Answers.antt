use Rattle.relax_worker.proofs.Common.{ℕ, ◌%◌, length, ℤ, sym, ap, ◌∙◌, subst, Side, Low, High, HasMoved, seen_on}
use Rattle.relax_worker.proofs.workers.turn.Goals as goal

-- the raise stays when the cell is sunk, and the sink begins with what was seen before the raise
pub returns-clause-moved : goal.returns-clause-moved
returns-clause-moved c =
    let p = c.args.table.now.problem.now in
    let at = c.args.ticket % c.len.result in
    let before = c.args.seat.now in
    let after = c.relax_cell-2.new.seat in
    let here = ap (λ (n : ℕ). c.args.ticket % n) (c.len.ensures.count ∙ ap length c.problem.ensures) in
    let moved : (side : Side) → HasMoved side p (seen_on side before) at (seen_on side after at) = elim [
      | Low ↦ subst (λ (x : ℤ). HasMoved Low p (seen_on Low before) at x) (sym (c.relax_cell-2.ensures.opposite _)) c.relax_cell.ensures.gain
      | High ↦ subst (λ (u : ℕ → ℤ). HasMoved High p u at (seen_on High after at)) (λ i d. c.relax_cell.ensures.opposite d i) c.relax_cell-2.ensures.gain
    ] in
    λ side. subst (λ (n : ℕ). HasMoved side p (seen_on side before) n (seen_on side after n)) here (moved side)
