use Rattle.listing_io.proofs.Common.{◌≡◌, ◌+◌, ◌<◌, ◌≤◌, List, [], ◌∷◌, refl, arith, drop, drop_all, each_lines, get_or, head_line, length, no_bound, Bound, variable_lines, entries_at, no_entries}
use Rattle.step_problem.specs.Entries.{Entries}
use Rattle.listing_io.proofs.Walks.{all_written, line_written, next_of}
use Rattle.listing_io.proofs.view_writer.push_variable_cells.Goals as goal

pub loop-cell-preserved : goal.loop-cell-preserved
loop-cell-preserved c =
    let p = c.args.p.now in
    let bs = c.args.heads.now in
    let i = c.loop-cell.cell in
    let lt : i < length bs = omega arith in
    let within : i < length p = omega (arith, c.requires.whole) in
    let rows = λ (es : List Entries) (hs : List Bound). each_lines (λ e b. head_line c.args.grid.now e.id b ∷ []) es hs in
    let next : rows (drop i p) (drop i bs) ≡ head_line c.args.grid.now (entries_at p i).id (get_or bs i no_bound) ∷ rows (drop (i + 1) p) (drop (i + 1) bs) =
    rw (next_of p i no_entries within, next_of bs i no_bound lt) refl in
    rw (c.in_ok-push_row.ensures, c.id_at.ensures, c.head_pair.ensures) (line_written c.loop-cell.text.items _ (rows (drop i p) (drop i bs)) c.loop-cell.invariant _ _ next)

pub returns : goal.returns
unfolding variable_lines
returns c =
    let p = c.args.p.now in
    let past : length p ≤ c.loop-cell.cell = omega (arith, c.requires.whole) in
    let rows = λ (es : List Entries). each_lines (λ e b. head_line c.args.grid.now e.id b ∷ []) es (drop c.loop-cell.cell c.args.heads.now) in
    let none : rows (drop c.loop-cell.cell p) ≡ [] = rw (drop_all c.loop-cell.cell p past) refl in
    all_written c.loop-cell.text.items _ (rows (drop c.loop-cell.cell p)) c.loop-cell.invariant none
