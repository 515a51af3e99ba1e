use Rattle.evt_package.proofs.Common.{◌≡◌, true, rules, int_at, is_nonzero}
use Rattle.evt_package.proofs.ModelLemmas.{is_found}
use Rattle.evt_package.proofs.chosen.highest_active.Goals as goal

pub returns-then-int_at-ne0-clause-cell : goal.returns-then-int_at-ne0-clause-cell
returns-then-int_at-ne0-clause-cell c =
    let active : is_nonzero (int_at c.args.ibound.now c.cell_in-cell.result) ≡ true = search rules in
    rw c.cell_in-cell.ensures.cell (is_found c.args.grid.now c.args.ibound.now c.args.column c.loop-layer.layer c.args.grid.now.layers _ c.loop-layer-test.true
    (rw c.cell_in-cell.ensures.cell at active) c.loop-layer.invariant)
