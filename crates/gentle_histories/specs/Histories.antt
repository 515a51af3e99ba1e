-- That listed heads with the signs have a history between them: one of gentle heads that balances each variable cell at each step to less than a unit of flow.
use Rattle.std.specs.Prelude.{ℕ, ℤ, List, [], ◌∷◌, All, ◌<◌}
use Rattle.decimal_input.specs.{Ratio, Ratios.AtMost}
use Rattle.model_types.specs.{declared.model.FlowModel.FlowModel, declared.time_steps.TimeStep.TimeStep, IsModel, times, variable_cells}
use Rattle.water_table.specs.declared.convertible_layers.ConvertibleLayers.{ConvertibleLayers}
use Rattle.water_table.specs.{HasSigns, IsGentle, LieInPairs, LiesInPair, ListedPair, NearlySolves, heads_at}

-- at a step, all heads between the listed ones are gentle, over any denominator
abbrev pub AreAllGentle : FlowModel → ConvertibleLayers → TimeStep → ListedPair → Type 0
AreAllGentle m w at pair =
    (d : ℕ) (X : ℕ → ℤ) → 0 < d → All (LiesInPair d X pair) (variable_cells m at.period) → IsGentle m w at.period (heads_at m at d X)

-- at each of these time steps; there are as many pairs as steps
abbrev pub AreAllGentleFrom : FlowModel → ConvertibleLayers → List TimeStep → List ListedPair → Type 0
AreAllGentleFrom m w [] [] = Unit {0}
AreAllGentleFrom m w (at ∷ steps) (pair ∷ pairs) = AreAllGentle m w at pair × AreAllGentleFrom m w steps pairs
AreAllGentleFrom m w _ _ = ⊥

-- A history within the listed pairs nearly solves the model: over one denominator its heads are gentle and balance each variable cell at each step to less
-- than the unit of flow.
pub record HasGentleHistory (unit : Ratio) (m : FlowModel) (w : ConvertibleLayers) (pairs : List ListedPair) : Type 0 where
  pub d : ℕ
  pub history : List (ℕ → ℤ)
  pub solves : NearlySolves unit m w d history
  pub within : LieInPairs m d (times m) history pairs

-- Where the listed pairs have the signs and all heads between them are gentle, there is one, by the unit of the signs and by each smaller one above 0. So it
-- is as close to solving the model as is wanted.
abbrev pub HistoriesExist : Type 0
HistoriesExist = (unit closer : Ratio) (m : FlowModel) (w : ConvertibleLayers) (pairs : List ListedPair) → IsModel m → 0 < closer.num → AtMost closer unit →
    HasSigns unit m w pairs → AreAllGentleFrom m w (times m) pairs → HasGentleHistory closer m w pairs
