-- The pumped cell of water_table, which two heads balance: the gentle one is enclosed.
use Rattle.std.specs.Prelude.{ℕ, ℤ, pos, List, [], ◌∷◌, ◌^◌}
use Rattle.decimal_input.specs.{ratio}
use Rattle.model_types.specs.{times}
use Rattle.water_table.specs.{LieInPairs, NearlySolves, middle_history, narrow_pair, pumped_layers, pumped_model}

-- Every history of gentle heads that balances the cell to less than 10^-9 m3/d lies from 0.59999999 to 0.60000001 m, and there is one: 0.6 m.
pub record HasOneGentleHead : Type 0 where
  pub enclosed : (d : ℕ) (Xs : List (ℕ → ℤ)) → NearlySolves (ratio 1 (10 ^ 9)) pumped_model pumped_layers d Xs →
      LieInPairs pumped_model d (times pumped_model) Xs (narrow_pair ∷ [])
  pub one : NearlySolves (ratio 1 (10 ^ 9)) pumped_model pumped_layers 100 (middle_history (pos 60) ∷ [])
