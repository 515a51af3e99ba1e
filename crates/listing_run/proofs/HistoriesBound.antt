-- Steps that bound every move of their decks bound every history.
use Rattle.listing_run.proofs.Common.{◌≡◌, ℕ, List, [], ◌∷◌, ◌<◌, length, arith, subst, ℤ, Option, Some, None, Fraction, Bound, FlowModel, TimeStep, start_head, times, SolvesFrom, heads_of}
use Rattle.listing_run.proofs.Common.{HeadsEnclose, Task, Step, Bounds, ExactCell, exact_step, sym, BoundAll, BoundChoices, BoundsMovesOf, HistoriesBound, lies_encloses, Choice, IsChoiceOf, IsStartOf}
use Rattle.listing_run.proofs.Common.{SolvesAt, own_choice, refl, AllZip, IsChoiceBetween, SolvesChoicesFrom}
use Rattle.deck_problems.proofs.OneProblem.{own_choice_is, own_solves}

-- each step is that of its time, and bounds every move from the heads of the step before, as far as there are steps
abbrev pub AllBoundMoves : Task → FlowModel → Option FlowModel → List Bound → List TimeStep → List Step → Type 0
AllBoundMoves k a o old ats [] = Unit {0}
AllBoundMoves k a o old (at ∷ ats) (v ∷ values) =
    (v.at ≡ at) × ((x : Choice) → IsChoiceOf a o at x → BoundsMovesOf k a at old v x) × AllBoundMoves k a o v.heads ats values
AllBoundMoves k a o old [] (v ∷ values) = ⊥

-- a time is left
left_over : (at : TimeStep) (ats : List TimeStep) → length (at ∷ ats) ≡ 0 → ⊥
left_over at ats e = omega (arith, e)

module _ (k : Task) (a : FlowModel) (d : ℕ) (some : 0 < d) where
  own_bound : (at : TimeStep) (old : List Bound) (v : Step) (before : ℕ → Fraction) (X : ℕ → ℤ) → v.at ≡ at → BoundsMovesOf k a at old v (own_choice a at) →
      HeadsEnclose a old before → SolvesAt a at before d X → Bounds k a v (exact_step a v.at.period v.at.step before) d X
  own_bound at old v before X time moves olds h =
      let B : List ExactCell → Type 0 = λ e. Bounds k a v e d X in
      let T : TimeStep → Type 0 = λ t. Bounds k a v (exact_step a t.period t.step before) d X in
      subst T (sym time) (subst B ((own_choice_is a at).cells before) (moves before d X (record { within = olds; some = some; solves = own_solves a at before d X h })))

  one_bound : (ats : List TimeStep) (old : List Bound) (values : List Step) (before : ℕ → Fraction) (Xs : List (ℕ → ℤ)) → length ats ≡ length values → AllBoundMoves k a None old ats values →
      HeadsEnclose a old before → SolvesFrom a d before ats Xs → BoundAll k a d before values Xs
  one_bound [] old [] before [] many moves olds h = tt
  one_bound [] old [] before (X ∷ Xs) many moves olds h = absurd h
  one_bound [] old (v ∷ values) before Xs many moves olds h = absurd moves
  one_bound (at ∷ ats) old [] before Xs many moves olds h = absurd (left_over at ats many)
  one_bound (at ∷ ats) old (v ∷ values) before [] many moves olds h = absurd h
  one_bound (at ∷ ats) old (v ∷ values) before (X ∷ Xs) many (time, here, moves) olds h =
      let b = own_bound at old v before X time (here (own_choice a at) (own_choice_is a at)) olds h.0 in
      (b, one_bound ats v.heads values (heads_of d X) Xs (omega (arith, many)) moves (lies_encloses a v.heads d X some b.heads) h.1)

  module _ (b : FlowModel) where
    two_bound : (ats : List TimeStep) (old : List Bound) (values : List Step) (before : ℕ → Fraction) (xs : List Choice) (Xs : List (ℕ → ℤ)) → length ats ≡ length values →
        AllBoundMoves k a (Some b) old ats values → HeadsEnclose a old before → AllZip (IsChoiceBetween a b) ats xs → SolvesChoicesFrom a d before ats xs Xs →
        BoundChoices k a d before values xs Xs
    two_bound [] old [] before [] [] many moves olds chosen h = tt
    two_bound (at ∷ ats) old (v ∷ values) before (x ∷ xs) (X ∷ Xs) many (time, here, moves) olds chosen h =
        let c = here x chosen.0 before d X (record { within = olds; some = some; solves = h.0 }) in
        (c, two_bound ats v.heads values (heads_of d X) xs Xs (omega (arith, many)) moves (lies_encloses a v.heads d X some c.heads) chosen.1 h.1)
    two_bound [] old [] before [] (X ∷ Xs) many moves olds chosen h = absurd h
    two_bound [] old [] before (x ∷ xs) Xs many moves olds chosen h = absurd chosen
    two_bound [] old (v ∷ values) before xs Xs many moves olds chosen h = absurd moves
    two_bound (at ∷ ats) old [] before xs Xs many moves olds chosen h = absurd (left_over at ats many)
    two_bound (at ∷ ats) old (v ∷ values) before [] Xs many moves olds chosen h = absurd chosen
    two_bound (at ∷ ats) old (v ∷ values) before (x ∷ xs) [] many moves olds chosen h = absurd h

pub histories_bound : (k : Task) (a : FlowModel) (o : Option FlowModel) (start : List Bound) (values : List Step) → length (times a) ≡ length values → AllBoundMoves k a o start (times a) values →
    ((f : ℕ → Fraction) → IsStartOf a o f → HeadsEnclose a start f) → HistoriesBound k a o values
histories_bound k a None start values many moves starts = λ d Xs h.
    one_bound k a d h.some (times a) start values (start_head a) Xs many moves (starts (start_head a) refl) h.steps
histories_bound k a (Some b) start values many moves starts = λ f xs are d Xs h.
    two_bound k a d h.some b (times a) start values f xs Xs many moves (starts f are.starts) are.steps h.steps
