-- A model between two others gives a choice between them, and its solutions solve that choice.
use Rattle.deck_span.proofs.Common.{◌≡◌, ◌∙◌, ℕ, refl, sym, ap, subst, ◌<◌, List, [], ◌∷◌, map, not, ◌&&◌, Fraction, FlowModel, FixedSource, ToConstant, ToGeneral, FromStorage, ExactCell, ExactFixed}
use Rattle.deck_span.proofs.Common.{is_constant, fixed_sources, variable_cells, exact_cell, exact_fixed, exact_step, start_head, IsStepBetween, fixed_from, step_from, ModelsGiveChoices}
use Rattle.deck_span.proofs.Common.{ModelsSolveChoices, variable_heads, SolvesStep}
use Rattle.deck_span.proofs.{SameFrames.active_is, SameFrames.constants_between, SameFrames.count_is, SameFrames.variable_same, StepsBetween.steps_between}

-- a step from other heads before it
module _ (m : FlowModel) (p n : ℕ) (old new : ℕ → Fraction) where
  branches_from : (c : ℕ) (xs : List FixedSource) → map (fixed_from (new c)) (map (exact_fixed m p n old c) xs) ≡ map (exact_fixed m p n new c) xs
  branches_from c [] = refl
  branches_from c (ToConstant x ∷ xs) = ap (λ (ys : List ExactFixed). exact_fixed m p n new c (ToConstant x) ∷ ys) (branches_from c xs)
  branches_from c (ToGeneral head cond ∷ xs) = ap (λ (ys : List ExactFixed). exact_fixed m p n new c (ToGeneral head cond) ∷ ys) (branches_from c xs)
  branches_from c (FromStorage ∷ xs) = ap (λ (ys : List ExactFixed). exact_fixed m p n new c FromStorage ∷ ys) (branches_from c xs)

  cells_from : (cs : List ℕ) → step_from new (map (exact_cell m p n old) cs) ≡ map (exact_cell m p n new) cs
  cells_from [] = refl
  cells_from (c ∷ cs) = λ i. record (exact_cell m p n new c) { fixed = branches_from c (fixed_sources m p c) i } ∷ cells_from cs i

  pub own_step : step_from new (exact_step m p n old) ≡ exact_step m p n new
  own_step = cells_from (variable_cells m p)

pub models_give : ModelsGiveChoices
models_give a m b at valid few between = record {
  heads = λ c lt constant. constants_between a m b between at.period at.step few (start_head a) c;
  cells = λ old.
      subst (λ (e : List ExactCell). IsStepBetween (exact_step a at.period at.step old) e (exact_step b at.period at.step old)) (sym (own_step m at.period at.step (start_head m) old))
      (steps_between a m b at.period at.step old valid few between);
}

pub models_solve : ModelsSolveChoices
models_solve a m b at old d X between h = record {
  constant = λ c lt constant. h.constant c (subst (λ (n : ℕ). c < n) (sym (count_is a m b between)) lt) (constant_is c ∙ constant);
  balances = subst (λ (e : List ExactCell). SolvesStep e d (variable_heads e X)) (sym (own_step m at.period at.step (start_head m) old)) h.balances;
}
  where
    constant_is : (c : ℕ) → is_constant m at.period c ≡ is_constant a at.period c
    constant_is c = λ i. active_is a m b between c i && not (variable_same a m b between at.period c i)
