use Rattle.period_arrays.proofs.Common.{◌≡◌, ◌-◌, each_number, layer_step}
use Rattle.period_arrays.proofs.layers.test_layers.Given as goal

abbrev pub invariant-loop-place : goal.invariant-loop-place
invariant-loop-place l = each_number (layer_step l.file l.grid l.layers) l.place (l.places - l.place) tt ≡ each_number (layer_step l.file l.grid l.layers) 0 l.places tt
