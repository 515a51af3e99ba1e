-- Where all steps of one deck or of two are turns, the model of the one deck has one history, or so has each choice between the two.
use Rattle.exact_histories.proofs.Common.{Limits, ◌∷◌, [], ℕ, refl, ℤ, List, Option, map, Fraction, start_head, times, own_choice, own_choice_is, own_solves, solves_own, FlowModel, TimeStep, Bound}
use Rattle.exact_histories.proofs.Common.{HeadsEnclose, heads_of, SolvesFrom, one_deck, IsStartOf, two, SolvesChoicesFrom, ChoicesHaveOne, None, Some, HasOneHistory, HaveOneBy}
use Rattle.exact_histories.proofs.{GridVectors.history_exists, Turns.AreChosen, Turns.AreTurns, Turns.goes_on, Turns.are_one}

-- the model's own choice for each of these times
module _ (m : FlowModel) where
  are_own : (limits : Limits) (s : ℕ) (ats : List TimeStep) → AreChosen limits (one_deck m) s ats (map (own_choice m) ats)
  are_own limits s [] = tt
  are_own limits s (at ∷ ats) = (own_choice_is m at, are_own limits s ats)

  chosen : (d : ℕ) (ats : List TimeStep) (before : ℕ → Fraction) (Xs : List (ℕ → ℤ)) → SolvesFrom m d before ats Xs → SolvesChoicesFrom m d before ats (map (own_choice m) ats) Xs
  chosen d [] before [] h = tt
  chosen d [] before (X ∷ Xs) h = absurd h
  chosen d (at ∷ ats) before [] h = absurd h
  chosen d (at ∷ ats) before (X ∷ Xs) (h, hs) = (own_solves m at before d X h, chosen d ats (heads_of d X) Xs hs)

  unchosen : (d : ℕ) (ats : List TimeStep) (before : ℕ → Fraction) (Xs : List (ℕ → ℤ)) → SolvesChoicesFrom m d before ats (map (own_choice m) ats) Xs → SolvesFrom m d before ats Xs
  unchosen d [] before [] h = tt
  unchosen d [] before (X ∷ Xs) h = absurd h
  unchosen d (at ∷ ats) before [] h = absurd h
  unchosen d (at ∷ ats) before (X ∷ Xs) (h, hs) = (solves_own m at before d X h, unchosen d ats (heads_of d X) Xs hs)

module _ (limits : Limits) (a : FlowModel) (s : ℕ) (start : List Bound) (news : List (List Bound)) where
  one_history : HeadsEnclose a start (start_head a) → AreTurns limits (one_deck a) s start (times a) news → HasOneHistory a
  one_history starts turns =
      let ats = times a in
      let xs = map (own_choice a) ats in
      let own = are_own a limits s ats in
      let (d, Xs, some, solves) = history_exists a ats xs (start_head a) (goes_on limits (one_deck a) s ats xs own start news (start_head a) starts turns) in
      record {
        solvable = (d, Xs, record { some = some; steps = unchosen a d ats (start_head a) Xs solves });
        one = λ d e Xs Ys first second.
            are_one limits (one_deck a) s ats xs own start news (start_head a) (start_head a) starts (λ c k. record { same = refl }) turns d e Xs Ys first.some second.some
            (chosen a d ats (start_head a) Xs first.steps) (chosen a e ats (start_head a) Ys second.steps);
      }

  one_each : (b : FlowModel) → ((f : ℕ → Fraction) → IsStartOf a (Some b) f → HeadsEnclose a start f) → AreTurns limits (two a b) s start (times a) news → ChoicesHaveOne a b
  one_each b starts turns = record {
    solvable = λ first xs are.
        let (d, Xs, some, solves) = history_exists a (times a) xs first (goes_on limits (two a b) s (times a) xs are.steps start news first (starts first are.starts) turns) in
        (d, Xs, record { some = some; steps = solves });
    one = λ first xs are d e Xs Ys one other.
        are_one limits (two a b) s (times a) xs are.steps start news first first (starts first are.starts) (λ c k. record { same = refl })
        turns d e Xs Ys one.some other.some one.steps other.steps;
  }

pub have_one_by : (limits : Limits) (a : FlowModel) (o : Option FlowModel) (s : ℕ) (start : List Bound) (news : List (List Bound)) →
    ((f : ℕ → Fraction) → IsStartOf a o f → HeadsEnclose a start f) → AreTurns limits (record { first = a; second = o }) s start (times a) news → HaveOneBy a o
have_one_by limits a None s start news starts turns = one_history limits a s start news (starts (start_head a) refl) turns
have_one_by limits a (Some b) s start news starts turns = one_each limits a s start news b starts turns
