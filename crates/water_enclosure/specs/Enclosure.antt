-- What signs of the balances at gentle heads say of all other gentle heads of a model with convertible layers.
use Rattle.std.specs.Prelude.{ℕ, ℤ, List, [], ◌∷◌, All}
use Rattle.decimal_input.specs.{Fraction, Ratio, Fractions.AtMost}
use Rattle.cell_balance.specs.{IsBelow, drain_flow, evap_flow, fixed_flow, river_flow, share}
use Rattle.model_types.specs.{declared.model.FlowModel.FlowModel, declared.time_steps.TimeStep.TimeStep, IsModel, constant_faces, start_head, times}
use Rattle.model_types.specs.{variable_cells}
use Rattle.water_table.specs.{declared.convertible_layers.ConvertibleLayers.ConvertibleLayers, HasSigns, IsGentle, LieInPairs, ListedPair, NearlySolves}
use Rattle.water_table.specs.{constant_branch, convertible_cell, general_branches, heads_at, listed_heads, water_balance}
unfoldable use Rattle.water_table.specs.{storage_flow}

-- At one step, heads X over d and Z over e that are gentle, from old heads of which those for X are nowhere above the others: where each
-- variable cell gains more at X than at Z, X is nowhere above Z. No cell needs a known head, and no head a floor.
abbrev pub GreaterBalancesLieLower : Type 0
GreaterBalancesLieLower = (m : FlowModel) (w : ConvertibleLayers) (at : TimeStep) (old older : ℕ → Fraction) (d e : ℕ) (X Z : ℕ → ℤ) → IsModel m →
    IsGentle m w at.period (heads_at m at d X) → IsGentle m w at.period (heads_at m at e Z) →
    All (λ c. AtMost (old c) (older c)) (variable_cells m at.period) →
    All (λ c. IsBelow (water_balance m w at older (heads_at m at e Z) c) (water_balance m w at old (heads_at m at d X) c)) (variable_cells m at.period) →
    All (λ c. AtMost (share d (X c)) (share e (Z c))) (variable_cells m at.period)

-- Listed pairs that have the signs enclose every history of gentle heads that nearly solves the model, at each step and in each variable cell.
abbrev pub SignsEncloseHistories : Type 0
SignsEncloseHistories = (unit : Ratio) (m : FlowModel) (w : ConvertibleLayers) (pairs : List ListedPair) (d : ℕ) (Xs : List (ℕ → ℤ)) → IsModel m →
    HasSigns unit m w pairs → NearlySolves unit m w d Xs → LieInPairs m d (times m) Xs pairs

-- The flows into the variable cell c that follow from its own head, at the heads h with old heads `old`, are at most those at the heads g with `older`:
-- branches to constant-head neighbours, general heads, rivers, drains, evapotranspiration and storage, each. (Wells and recharge are the same at all heads.)
pub record OwnFlowsAreAtMost (m : FlowModel) (w : ConvertibleLayers) (at : TimeStep) (old h older g : ℕ → Fraction) (c : ℕ) : Type 0 where
  pub constants : All (λ x. AtMost (fixed_flow (h c) (constant_branch m w at h x)) (fixed_flow (g c) (constant_branch m w at g x)))
      (constant_faces m at.period c)
  pub generals : All (λ x. AtMost (fixed_flow (h c) x) (fixed_flow (g c) x)) (general_branches m w at h c)
  pub rivers : All (λ x. AtMost (river_flow (h c) x) (river_flow (g c) x)) (convertible_cell m w at h c).rivers
  pub drains : All (λ x. AtMost (drain_flow (h c) x) (drain_flow (g c) x)) (convertible_cell m w at h c).drains
  pub evaps : All (λ x. AtMost (evap_flow (h c) x) (evap_flow (g c) x)) (convertible_cell m w at h c).evaps
  pub storage : AtMost (storage_flow m w at.period at.step c (old c) (h c)) (storage_flow m w at.period at.step c (older c) (g c))

-- At a step the history's flows lie between: the least ones are those of the old lower heads and the new upper ones, the greatest
-- those of the old upper heads and the new lower ones.
pub record FlowsLieAt (m : FlowModel) (w : ConvertibleLayers) (at : TimeStep) (old_low old old_high : ℕ → Fraction) (d : ℕ)
    (X : ℕ → ℤ) (pair : ListedPair) (c : ℕ) : Type 0 where
  pub least : OwnFlowsAreAtMost m w at old_low (listed_heads m at pair.high) old (heads_at m at d X) c
  pub most : OwnFlowsAreAtMost m w at old (heads_at m at d X) old_high (listed_heads m at pair.low) c

abbrev pub FlowsLieFrom : FlowModel → ConvertibleLayers → ℕ → (ℕ → Fraction) → (ℕ → Fraction) → (ℕ → Fraction) → List TimeStep →
    List (ℕ → ℤ) → List ListedPair → Type 0
FlowsLieFrom m w d old_low old old_high [] [] [] = Unit {0}
FlowsLieFrom m w d old_low old old_high (at ∷ steps) (X ∷ Xs) (pair ∷ pairs) =
    All (FlowsLieAt m w at old_low old old_high d X pair) (variable_cells m at.period)
    × FlowsLieFrom m w d (listed_heads m at pair.low) (heads_at m at d X) (listed_heads m at pair.high) steps Xs pairs
FlowsLieFrom m w d old_low old old_high _ _ _ = ⊥

-- So does each flow of a history into a cell by its own head, at each step.
abbrev pub SignsEncloseFlows : Type 0
SignsEncloseFlows = (unit : Ratio) (m : FlowModel) (w : ConvertibleLayers) (pairs : List ListedPair) (d : ℕ) (Xs : List (ℕ → ℤ)) → IsModel m →
    HasSigns unit m w pairs → NearlySolves unit m w d Xs → FlowsLieFrom m w d (start_head m) (start_head m) (start_head m) (times m) Xs pairs
