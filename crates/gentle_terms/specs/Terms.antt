-- The volumetric budget of a step of a model with convertible layers at heads that are fractions (TM 6-A16, chapter 3): In and Out of each term.
use Rattle.std.specs.Prelude.{ℕ, ℤ, List, [], ◌∷◌, All, cond}
use Rattle.decimal_input.specs.{Fraction, Ratio, fraction_total, Fractions.AtMost}
use Rattle.step_problem.specs.{declared.place.Dir.Dir, declared.place.Dir.TheVariants.In, declared.place.Dir.TheVariants.Out, declared.place.Term.Term}
use Rattle.step_problem.specs.{declared.place.Term.TheVariants.Storage}
use Rattle.model_types.specs.{declared.model.FlowModel.FlowModel, declared.time_steps.TimeStep.TimeStep, IsModel, start_head, times, variable_cells}
use Rattle.budget_bounds.specs.{exact_part, is_term}
unfoldable use Rattle.budget_bounds.specs.{exact_term}
use Rattle.water_table.specs.declared.convertible_layers.ConvertibleLayers.{ConvertibleLayers}
use Rattle.water_table.specs.{HasSigns, ListedPair, NearlySolves, convertible_step, heads_at, listed_heads, storage_flow, variable_cell}
use Rattle.water_enclosure.specs.{OwnFlowsAreAtMost}

-- At the heads h, where those before the step are `old`.
module _ (m : FlowModel) (w : ConvertibleLayers) (at : TimeStep) (old h : ℕ → Fraction) where
  -- stored water is one flow of each variable cell
  abbrev pub stored_term : Dir → Fraction
  stored_term dir = fraction_total (λ c. exact_part dir (storage_flow m w at.period at.step c (old c) (h c))) (variable_cells m at.period)

  -- any other term is that of the exact step without storage
  unfoldable pub water_term : Dir → Term → Fraction
  water_term dir t = cond (is_term t Storage) (stored_term dir) (exact_term (convertible_step m w at h) (λ k. h (variable_cell m at.period k)) dir t)

-- what flows in is at most the other, what flows out is at least the other
abbrev pub InOrder : Dir → Fraction → Fraction → Type 0
InOrder In f g = AtMost f g
InOrder Out f g = AtMost g f

-- Where each flow into a variable cell by its own head at the heads h is at most that at the heads g, so are the terms.
abbrev pub TermsAreInOrder : Type 0
TermsAreInOrder = (m : FlowModel) (w : ConvertibleLayers) (at : TimeStep) (old h older g : ℕ → Fraction) (dir : Dir) (t : Term) → IsModel m →
    All (OwnFlowsAreAtMost m w at old h older g) (variable_cells m at.period) → InOrder dir (water_term m w at old h dir t) (water_term m w at older g dir t)

-- At a step a history's terms lie between: the least In and the greatest Out are those of the old lower heads and the new upper ones, the greatest In and the
-- least Out those of the old upper heads and the new lower ones.
pub record TermsLieAt (m : FlowModel) (w : ConvertibleLayers) (at : TimeStep) (old_low old old_high : ℕ → Fraction) (d : ℕ) (X : ℕ → ℤ)
    (pair : ListedPair) (dir : Dir) (t : Term) : Type 0 where
  pub upper_heads : InOrder dir (water_term m w at old_low (listed_heads m at pair.high) dir t) (water_term m w at old (heads_at m at d X) dir t)
  pub lower_heads : InOrder dir (water_term m w at old (heads_at m at d X) dir t) (water_term m w at old_high (listed_heads m at pair.low) dir t)

abbrev pub TermsLieFrom : FlowModel → ConvertibleLayers → ℕ → (ℕ → Fraction) → (ℕ → Fraction) → (ℕ → Fraction) → List TimeStep →
    List (ℕ → ℤ) → List ListedPair → Type 0
TermsLieFrom m w d old_low old old_high [] [] [] = Unit {0}
TermsLieFrom m w d old_low old old_high (at ∷ steps) (X ∷ Xs) (pair ∷ pairs) =
    ((dir : Dir) (t : Term) → TermsLieAt m w at old_low old old_high d X pair dir t)
    × TermsLieFrom m w d (listed_heads m at pair.low) (heads_at m at d X) (listed_heads m at pair.high) steps Xs pairs
TermsLieFrom m w d old_low old old_high _ _ _ = ⊥

-- So do the terms of every history of gentle heads that nearly solves the model, where the listed heads have the signs.
abbrev pub HistoryTermsLieBetween : Type 0
HistoryTermsLieBetween = (unit : Ratio) (m : FlowModel) (w : ConvertibleLayers) (pairs : List ListedPair) (d : ℕ) (Xs : List (ℕ → ℤ)) → IsModel m →
    HasSigns unit m w pairs → NearlySolves unit m w d Xs → TermsLieFrom m w d (start_head m) (start_head m) (start_head m) (times m) Xs pairs
