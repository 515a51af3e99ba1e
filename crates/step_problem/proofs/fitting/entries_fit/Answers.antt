use Rattle.std.proofs.Common.{◌≡◌}
use Rattle.step_problem.proofs.fitting.entries_fit.Goals as goal

pub returns : goal.returns
returns c =
    let links : c.deref.result.now ≡ c.args.cell.now.links = cc (c.deref.ensures.value, c.cell.view_is) in
    let fixed : c.deref-2.result.now ≡ c.args.cell.now.fixed = cc (c.deref-2.ensures.value, c.cell.view_is) in
    let rivers : c.deref-3.result.now ≡ c.args.cell.now.rivers = cc (c.deref-3.ensures.value, c.cell.view_is) in
    let drains : c.deref-4.result.now ≡ c.args.cell.now.drains = cc (c.deref-4.ensures.value, c.cell.view_is) in
    let evaps : c.deref-5.result.now ≡ c.args.cell.now.evaps = cc (c.deref-5.ensures.value, c.cell.view_is) in
    rw (← links, ← fixed, ← rivers, ← drains, ← evaps) c.in_range.ensures
