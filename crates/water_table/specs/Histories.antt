-- Histories of gentle heads that nearly solve a model with convertible layers, and listed heads that enclose them. A quadratic
-- equation has mostly no fraction as its solution, but fractions near to it: so balances are below a unit of flow in magnitude, and not 0.
use Rattle.std.specs.Prelude.{ℕ, ℤ, List, [], ◌∷◌, All, ◌<◌, ◌^◌}
use Rattle.decimal_input.specs.{Fraction, Ratio, as_fraction, opposite, Fractions.AtMost}
use Rattle.cell_balance.specs.{IsBelow, share}
use Rattle.model_types.specs.{declared.model.FlowModel.FlowModel, declared.time_steps.TimeStep.TimeStep, start_head, times, variable_cells}
use Rattle.water_table.specs.{declared.convertible_layers.ConvertibleLayers.ConvertibleLayers, Gentle.IsGentle, Steps.heads_at, Steps.water_balance}

-- less than the unit in magnitude, at least the unit, and at most minus the unit
abbrev pub IsWithin : Ratio → Fraction → Type 0
IsWithin unit f = IsBelow f (as_fraction unit) × IsBelow (opposite (as_fraction unit)) f

abbrev pub GainsAtLeast : Ratio → Fraction → Type 0
GainsAtLeast unit f = AtMost (as_fraction unit) f

abbrev pub LosesAtLeast : Ratio → Fraction → Type 0
LosesAtLeast unit f = AtMost f (opposite (as_fraction unit))

-- At one step, where the heads of the step before are `old`: the heads X over d are gentle, and each variable cell is balanced to less than a unit of flow.
pub record NearlySolvesAt (unit : Ratio) (m : FlowModel) (w : ConvertibleLayers) (at : TimeStep) (old : ℕ → Fraction) (d : ℕ) (X : ℕ → ℤ) : Type 0 where
  pub gentle : IsGentle m w at.period (heads_at m at d X)
  pub balances : All (λ c. IsWithin unit (water_balance m w at old (heads_at m at d X) c)) (variable_cells m at.period)

-- one vector for each of these time steps, each from the heads of the vector before
abbrev pub NearlySolvesFrom : Ratio → FlowModel → ConvertibleLayers → ℕ → (ℕ → Fraction) → List TimeStep → List (ℕ → ℤ) → Type 0
NearlySolvesFrom unit m w d old [] [] = Unit {0}
NearlySolvesFrom unit m w d old (at ∷ steps) (X ∷ Xs) = NearlySolvesAt unit m w at old d X × NearlySolvesFrom unit m w d (heads_at m at d X) steps Xs
NearlySolvesFrom unit m w d old [] (X ∷ Xs) = ⊥
NearlySolvesFrom unit m w d old (at ∷ steps) [] = ⊥

-- The history Xs over d nearly solves the model: d is above 0, and its vectors do so at all time steps in turn, from STRT on.
pub record NearlySolves (unit : Ratio) (m : FlowModel) (w : ConvertibleLayers) (d : ℕ) (Xs : List (ℕ → ℤ)) : Type 0 where
  pub some : 0 < d
  pub steps : NearlySolvesFrom unit m w d (start_head m) (times m) Xs

-- Lower and upper listed heads of a step, in units of 10^-9.
pub record ListedPair : Type 0 where
  pub low : ℕ → ℤ
  pub high : ℕ → ℤ

-- the listed heads of a step, as fractions
abbrev pub listed_heads : FlowModel → TimeStep → (ℕ → ℤ) → ℕ → Fraction
listed_heads m at l = heads_at m at (10 ^ 9) l

-- At one step: both vectors are gentle. At the lower heads each variable cell gains at least a unit of flow, with the stored
-- water of the lower heads of the step before; at the upper heads it loses at least one, with that of the upper heads.
pub record HasSignsAt (unit : Ratio) (m : FlowModel) (w : ConvertibleLayers) (at : TimeStep) (old_low old_high : ℕ → Fraction)
    (pair : ListedPair) : Type 0 where
  pub low_gentle : IsGentle m w at.period (listed_heads m at pair.low)
  pub high_gentle : IsGentle m w at.period (listed_heads m at pair.high)
  pub low : All (λ c. GainsAtLeast unit (water_balance m w at old_low (listed_heads m at pair.low) c)) (variable_cells m at.period)
  pub high : All (λ c. LosesAtLeast unit (water_balance m w at old_high (listed_heads m at pair.high) c)) (variable_cells m at.period)

abbrev pub HasSignsFrom : Ratio → FlowModel → ConvertibleLayers → (ℕ → Fraction) → (ℕ → Fraction) → List TimeStep → List ListedPair → Type 0
HasSignsFrom unit m w old_low old_high [] [] = Unit {0}
HasSignsFrom unit m w old_low old_high (at ∷ steps) (pair ∷ pairs) =
    HasSignsAt unit m w at old_low old_high pair × HasSignsFrom unit m w (listed_heads m at pair.low) (listed_heads m at pair.high) steps pairs
HasSignsFrom unit m w old_low old_high [] (pair ∷ pairs) = ⊥
HasSignsFrom unit m w old_low old_high (at ∷ steps) [] = ⊥

-- the listed pairs have these signs at all time steps in turn, from STRT on
abbrev pub HasSigns : Ratio → FlowModel → ConvertibleLayers → List ListedPair → Type 0
HasSigns unit m w pairs = HasSignsFrom unit m w (start_head m) (start_head m) (times m) pairs

-- The head X over d of a cell lies between the listed ones.
pub record LiesInPair (d : ℕ) (X : ℕ → ℤ) (pair : ListedPair) (c : ℕ) : Type 0 where
  pub low : AtMost (share (10 ^ 9) (pair.low c)) (share d (X c))
  pub high : AtMost (share d (X c)) (share (10 ^ 9) (pair.high c))

-- at each step, in each variable cell; there are as many vectors and pairs as steps
abbrev pub LieInPairs : FlowModel → ℕ → List TimeStep → List (ℕ → ℤ) → List ListedPair → Type 0
LieInPairs m d [] [] [] = Unit {0}
LieInPairs m d (at ∷ steps) (X ∷ Xs) (pair ∷ pairs) = All (LiesInPair d X pair) (variable_cells m at.period) × LieInPairs m d steps Xs pairs
LieInPairs m d _ _ _ = ⊥
