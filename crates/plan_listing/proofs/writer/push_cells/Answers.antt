use Rattle.plan_listing.proofs.Common.{◌≡◌, ◌++◌, ◌+◌, ◌-◌, ◌<◌, ℕ, List, [], refl, subst, arith, drop, get_or, length, range_with_len, Bound, each_lines, text_of, all_written, cells_next}
use Rattle.plan_listing.proofs.Common.{lines_written, next_of, no_cells, plan_cell_lines, plan_cells}
use Rattle.step_problem.specs.{no_bound}
unfoldable use Rattle.plan_listing.specs.{cells_lines}
use Rattle.plan_listing.proofs.writer.push_cells.Goals as goal

pub loop-cell-preserved : goal.loop-cell-preserved
loop-cell-preserved c =
    let first = c.args.base.now in
    let bs = c.args.planned.now in
    let ds = c.args.differences.now in
    let n = length first in
    let i = c.loop-cell.cell in
    let lt : i < n = omega arith in
    let lt_b : i < length bs = omega (arith, c.requires.base, c.requires.planned) in
    let lt_d : i < length ds = omega (arith, c.requires.base, c.requires.differences) in
    let rows = λ (cs : List ℕ) (xs ys zs : List Bound). each_lines (plan_cell_lines c.args.model.now) cs (plan_cells xs ys zs) in
    let next : rows (range_with_len i (n - i)) (drop i first) (drop i bs) (drop i ds) ≡
    plan_cell_lines c.args.model.now i (record { base = get_or first i no_bound; planned = get_or bs i no_bound; difference = get_or ds i no_bound })
    ++ rows (range_with_len (i + 1) (n - (i + 1))) (drop (i + 1) first) (drop (i + 1) bs) (drop (i + 1) ds) =
    rw (cells_next n i lt, next_of first i no_bound lt, next_of bs i no_bound lt_b, next_of ds i no_bound lt_d) refl in
    rw c.in_ok-push_cell.ensures
    (lines_written c.loop-cell.text.items _ (rows (range_with_len i (n - i)) (drop i first) (drop i bs) (drop i ds)) c.loop-cell.invariant _ _ next)

pub returns : goal.returns
unfolding cells_lines
returns c =
    let first = c.args.base.now in
    let n = length first in
    let i = c.loop-cell.cell in
    let xs = plan_cells first c.args.planned.now c.args.differences.now in
    let rows = λ (cs : List ℕ). each_lines (plan_cell_lines c.args.model.now) cs (plan_cells (drop i first) (drop i c.args.planned.now) (drop i c.args.differences.now)) in
    let none : rows (range_with_len i (n - i)) ≡ [] = rw (no_cells n i (omega arith)) refl in
    let P : ℕ → Type 0 = λ k. c.loop-cell.text.items ≡ c.args.text.now.items ++ text_of (each_lines (plan_cell_lines c.args.model.now) (range_with_len 0 k) xs) in
    subst P c.requires.base (all_written c.loop-cell.text.items _ (rows (range_with_len i (n - i))) c.loop-cell.invariant none)
