use Rattle.evt_package.proofs.Common.{◌≡◌, ◌-◌, highest_active}
use Rattle.evt_package.proofs.chosen.highest_active.Given as goal

abbrev pub invariant-loop-layer : goal.invariant-loop-layer
invariant-loop-layer l = highest_active l.grid l.ibound l.column l.layer (l.grid.layers - l.layer) ≡ highest_active l.grid l.ibound l.column 0 l.grid.layers
