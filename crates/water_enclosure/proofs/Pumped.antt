-- The pumped cell's pair has the signs, so it encloses.
use Rattle.water_enclosure.proofs.Common.{ratio, ◌^◌, HasOneGentleHead, narrow_pair, pumped_layers, pumped_model}
use Rattle.std.specs.Prelude.{[], ◌∷◌}
use Rattle.water_table.proofs.Pumped.{has_two_solutions}
use Rattle.water_enclosure.proofs.Histories.{signs_enclose_histories}

pub has_one_gentle_head : HasOneGentleHead
has_one_gentle_head = record {
  enclosed = λ d Xs near. signs_enclose_histories (ratio 1 (10 ^ 9)) pumped_model pumped_layers (narrow_pair ∷ []) d Xs has_two_solutions.valid has_two_solutions.signs near;
  one = has_two_solutions.solved;
}
