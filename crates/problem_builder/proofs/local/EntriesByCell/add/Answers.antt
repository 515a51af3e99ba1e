use Rattle.problem_builder.proofs.Common.{◌∷◌, [], ◌<◌, None, List, length, map, set, ap, subst, arith, get_or_read, AreAppended, LocalBounds, length-map, kept_bounds}
use Rattle.problem_builder.proofs.Appended.{kept_one}
use Rattle.problem_builder.proofs.local.EntriesByCell.add.Goals as goal

pub returns-clause-appended : goal.returns-clause-appended
returns-clause-appended c =
    let s = c.args.s in
    let cell = c.cell_of-cell.result in
    let cells = c.self.inside.cells.items in
    let e = c.args.entry.now in
    let lt : cell < length cells = omega (arith, c.requires.entry.0, ap length c.self.view_is, length-map cells kept_bounds) in
    subst (λ (old : List LocalBounds). AreAppended s old (map kept_bounds (set cells cell c.add_to.new.kept)) (e ∷ [])) c.self.view_is
    (kept_one s cells cell c.index_mut.result.now c.add_to.new.kept e lt c.cell_of-cell.ensures
    (get_or_read cells cell c.index_mut.result.now lt c.index_mut.ensures.value None) c.in_ok-add_to.ensures)
