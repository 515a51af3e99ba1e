-- A model between two others gives choices between them, which its histories solve.
use Rattle.exact_histories.proofs.Common.{[], ◌∷◌, ℕ, ℤ, subst, List, Contains, map, Fraction, start_head, times, FlowModel, TimeStep, heads_of, IsModel, SolvesFrom, first_in, next_in, own_choice}
use Rattle.exact_histories.proofs.Common.{SolvesChoicesFrom, ModelsAreChosen, IsBetween, IsChoiceBetween, AllZip, time_of}
use Rattle.deck_span.proofs.{OwnChoices.models_give, OwnChoices.models_solve, SameFrames.starts_between, SameFrames.times_are}

module _ (a m b : FlowModel) (valid : IsModel a) (between : IsBetween a m b) where
  chosen : (ats : List TimeStep) → ((at : TimeStep) → Contains ats at → Contains (times a) at) → AllZip (IsChoiceBetween a b) ats (map (own_choice m) ats)
  chosen [] these = tt
  chosen (at ∷ ats) these = (
    models_give a m b at valid (time_of a at valid (these at (first_in at ats))).step.1 between,
    chosen ats (λ u k. these u (next_in at ats u k)),
  )

  solved : (d : ℕ) (ats : List TimeStep) (before : ℕ → Fraction) (Xs : List (ℕ → ℤ)) → SolvesFrom m d before ats Xs → SolvesChoicesFrom a d before ats (map (own_choice m) ats) Xs
  solved d [] before [] h = tt
  solved d [] before (X ∷ Xs) h = absurd h
  solved d (at ∷ ats) before [] h = absurd h
  solved d (at ∷ ats) before (X ∷ Xs) (h, hs) = (models_solve a m b at before d X between h, solved d ats (heads_of d X) Xs hs)

pub models_chosen : ModelsAreChosen
models_chosen a m b valid between = record {
  are = record { starts = starts_between a m b between; steps = chosen a m b valid between (times a) (λ at k. k) };
  solves = λ d Xs h. record {
    some = h.some;
    steps = solved a m b valid between d (times a) (start_head m) Xs (subst (λ (ats : List TimeStep). SolvesFrom m d (start_head m) ats Xs) (times_are a m b between) h.steps);
  };
}
