-- A pumped cell between two known heads, which has two wet solutions by LPF's equations: why gentle heads are asked for. Lengths in metres.
use Rattle.std.specs.Prelude.{ℕ, ℤ, pos, negsuc, true, [], ◌∷◌, ◌≡◌, ◌^◌}
use Rattle.decimal_input.specs.{declared.dec.Dec.Dec, Fraction, ratio}
use Rattle.model_types.specs.{declared.entry.Entry.TheVariants.Well, declared.model.FlowModel.FlowModel, declared.time_steps.TimeStep.TimeStep, no_number}
use Rattle.model_types.specs.{start_head, IsModel}
use Rattle.step_problem.specs.{head_at}
use Rattle.flow_equations.specs.{cell, decimal, period_with, row_model}
use Rattle.water_table.specs.{declared.convertible_layers.ConvertibleLayers.ConvertibleLayers, Gentle.IsGentle, Histories.HasSigns, Histories.ListedPair}
use Rattle.water_table.specs.{Histories.NearlySolves, Steps.heads_at, Steps.water_balance}

-- 0.6 m3/d out of the cell
abbrev pub pumping : Dec
pumping = record { neg = true; digits = 6; exp = negsuc 0 }

-- Three cells in a row, from 0 up to 1 m, of width and conductivity 1: heads of 1 m at the ends, and a well in the middle.
abbrev pub pumped_model : FlowModel
pumped_model =
    row_model (negsuc 0 ∷ pos 1 ∷ negsuc 0 ∷ []) (decimal 1 0 ∷ no_number ∷ decimal 1 0 ∷ []) []
    (period_with true (decimal 1 0) 1 (Well (cell 1) pumping ∷ [])) 3

-- LAYTYP is 1
abbrev pub pumped_layers : ConvertibleLayers
pumped_layers = record { laytyp = pos 1 ∷ []; sy = [] }

abbrev pub only_step : TimeStep
only_step = record { period = 1; step = 1 }

-- the heads with z hundredths of a metre in the middle cell
abbrev pub middle_history : ℤ → ℕ → ℤ
middle_history z = head_at (pos 100 ∷ z ∷ pos 100 ∷ [])

abbrev pub middle_head : ℤ → ℕ → Fraction
middle_head z = heads_at pumped_model only_step 100 (middle_history z)

abbrev pub middle_balance : ℤ → Fraction
middle_balance z = water_balance pumped_model pumped_layers only_step (start_head pumped_model) (middle_head z) 1

-- listed heads of the middle cell from 0.59999999 to 0.60000001 m
abbrev pub narrow_pair : ListedPair
narrow_pair = record {
  low = head_at (pos 1000000000 ∷ pos 599999990 ∷ pos 1000000000 ∷ []);
  high = head_at (pos 1000000000 ∷ pos 600000010 ∷ pos 1000000000 ∷ []);
}

-- At 0.6 m and at 0.25 m the balance is 0. The first is gentle and solves the model, and a narrow pair about it has the signs; at the second the
-- head falls to the cell by 0.75 m, which is more than its saturated thickness.
pub record HasTwoSolutions : Type 0 where
  pub valid : IsModel pumped_model
  pub high : (middle_balance (pos 60)).num ≡ pos 0
  pub low : (middle_balance (pos 25)).num ≡ pos 0
  pub high_is_gentle : IsGentle pumped_model pumped_layers 1 (middle_head (pos 60))
  pub low_is_steep : IsGentle pumped_model pumped_layers 1 (middle_head (pos 25)) → ⊥
  pub signs : HasSigns (ratio 1 (10 ^ 9)) pumped_model pumped_layers (narrow_pair ∷ [])
  pub solved : NearlySolves (ratio 1 (10 ^ 9)) pumped_model pumped_layers 100 (middle_history (pos 60) ∷ [])
