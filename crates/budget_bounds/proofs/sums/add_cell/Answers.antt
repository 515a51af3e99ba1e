use Rattle.std.proofs.Common.{◌≡◌}
use Rattle.budget_bounds.proofs.Cells.{cell_added}
use Rattle.budget_bounds.proofs.sums.add_cell.Goals as goal

pub returns-clause-value : goal.returns-clause-value
returns-clause-value c = λ t.
    let fixed : c.deref.result.now ≡ c.args.cell.now.fixed = cc (c.deref.ensures.value, c.cell.view_is) in
    let flows : c.deref-2.result.now ≡ c.args.cell.now.flows = cc (c.deref-2.ensures.value, c.cell.view_is) in
    let drains : c.deref-3.result.now ≡ c.args.cell.now.drains = cc (c.deref-3.ensures.value, c.cell.view_is) in
    let rivers : c.deref-4.result.now ≡ c.args.cell.now.rivers = cc (c.deref-4.ensures.value, c.cell.view_is) in
    let evaps : c.deref-5.result.now ≡ c.args.cell.now.evaps = cc (c.deref-5.ensures.value, c.cell.view_is) in
    cell_added c.args.dir c.args.cell.now c.args.own.low c.args.own.high t _ _ _ _ _ _ (rw fixed at (c.add_entries.ensures.value t))
    (rw flows at (c.add_entries-2.ensures.value t)) (rw drains at (c.add_entries-3.ensures.value t))
    (rw rivers at (c.add_entries-4.ensures.value t)) (rw evaps at (c.add_entries-5.ensures.value t))
