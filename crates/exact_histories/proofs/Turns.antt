-- Turns of one deck or of two: a problem for each time, and heads that each solution of a choice lands within. By them the choices have a
-- history, and one alone, by induction on the time steps.
use Rattle.exact_histories.proofs.Common.{Limits, ◌<◌, [], ◌∷◌, ℕ, ℤ, List, Contains, map, Fraction, Same-sym, TimeStep, Bound, heads_of, HeadsEnclose, AreGridHeads, AreSameHeads, AreSame, IsBefore}
use Rattle.exact_histories.proofs.Common.{AreDecks, Choice, SolvesChoicesFrom, times, AreSteps, Solved, PairKind, pair_fits, Decks, IsChoiceOf, first_in, next_in, all_fit, AllZip}
use Rattle.exact_histories.proofs.{GridVectors.GoOn, OneTurn.IsTurn, OneTurn.turn_of, OneTurn.has_vector, OneTurn.heads_same}

abbrev pub heads_at : Solved → List Bound
heads_at x = x.heads

module _ (limits : Limits) (ds : Decks) (s : ℕ) where
  -- turns of these times, each from the heads that the one before landed within
  abbrev pub AreTurns : List Bound → List TimeStep → List (List Bound) → Type 0
  AreTurns old [] [] = Unit {0}
  AreTurns old [] (new ∷ news) = ⊥
  AreTurns old (at ∷ ats) [] = ⊥
  AreTurns old (at ∷ ats) (new ∷ news) = IsTurn limits ds s at old new × AreTurns new ats news

  pub turns_of : (kind : PairKind) (decks : AreDecks ds) (old : List Bound) (ats : List TimeStep) (xs : List Solved) →
      ((at : TimeStep) → Contains ats at → Contains (times ds.first) at) → AreGridHeads ds.first old → AreSteps limits ds s kind old ats xs →
      AreTurns old ats (map heads_at xs)
  turns_of kind decks old [] [] these grid steps = tt
  turns_of kind decks old [] (x ∷ xs) these grid steps = absurd steps
  turns_of kind decks old (at ∷ ats) [] these grid steps = absurd steps
  turns_of kind decks old (at ∷ ats) (x ∷ xs) these grid (step, steps) =
      let start : IsBefore ds at old = record { decks = decks; time = these at (first_in at ats); heads = grid } in
      (turn_of limits ds s at old kind x start step, turns_of kind decks x.heads ats xs (λ u k. these u (next_in at ats u k)) (all_fit pair_fits limits ds s at old kind x start step) steps)

  -- each is a choice of the decks for its time
  abbrev pub AreChosen : List TimeStep → List Choice → Type 0
  AreChosen = AllZip (λ at x. IsChoiceOf ds.first ds.second at x)

  pub goes_on : (ats : List TimeStep) (xs : List Choice) → AreChosen ats xs → (old : List Bound) (news : List (List Bound)) (before : ℕ → Fraction) → HeadsEnclose ds.first old before →
      AreTurns old ats news → GoOn ds.first ats xs before
  goes_on [] [] chosen old news before olds turns = tt
  goes_on (at ∷ ats) (x ∷ xs) chosen old (new ∷ news) before olds (turn, turns) = (
    has_vector limits ds s at old new turn x chosen.0 before olds,
    (λ d X some solves. goes_on ats xs chosen.1 new news (heads_of d X) (turn.lands x chosen.0 before d X olds some solves) turns),
  )
  goes_on [] (x ∷ xs) chosen old news before olds turns = absurd chosen
  goes_on (at ∷ ats) [] chosen old news before olds turns = absurd chosen
  goes_on (at ∷ ats) (x ∷ xs) chosen old [] before olds turns = absurd turns

  pub are_one : (ats : List TimeStep) (xs : List Choice) → AreChosen ats xs → (old : List Bound) (news : List (List Bound)) (before other : ℕ → Fraction) →
      HeadsEnclose ds.first old before → AreSameHeads ds.first other before → AreTurns old ats news →
      (d e : ℕ) (Xs Ys : List (ℕ → ℤ)) → 0 < d → 0 < e → SolvesChoicesFrom ds.first d before ats xs Xs → SolvesChoicesFrom ds.first e other ats xs Ys → AreSame ds.first d e Xs Ys
  are_one [] [] chosen old news before other olds same turns d e [] [] some_d some_e first second = tt
  are_one (at ∷ ats) (x ∷ xs) chosen old (new ∷ news) before other olds same (turn, turns) d e (X ∷ Xs) (Y ∷ Ys) some_d some_e (first, firsts) (second, seconds) =
      let here = heads_same limits ds s at old new turn x chosen.0 before olds other same d e X Y some_d some_e first second in (
        here,
        are_one ats xs chosen.1 new news (heads_of d X) (heads_of e Y)
            (turn.lands x chosen.0 before d X olds some_d first) (λ k act. Same-sym (here k act)) turns d e Xs Ys some_d some_e firsts seconds,
      )
  are_one [] [] chosen old news before other olds same turns d e [] (Y ∷ Ys) some_d some_e first second = absurd second
  are_one [] [] chosen old news before other olds same turns d e (X ∷ Xs) Ys some_d some_e first second = absurd first
  are_one [] (x ∷ xs) chosen old news before other olds same turns d e Xs Ys some_d some_e first second = absurd chosen
  are_one (at ∷ ats) [] chosen old news before other olds same turns d e Xs Ys some_d some_e first second = absurd chosen
  are_one (at ∷ ats) (x ∷ xs) chosen old [] before other olds same turns d e Xs Ys some_d some_e first second = absurd turns
  are_one (at ∷ ats) (x ∷ xs) chosen old (new ∷ news) before other olds same turns d e [] Ys some_d some_e first second = absurd first
  are_one (at ∷ ats) (x ∷ xs) chosen old (new ∷ news) before other olds same turns d e (X ∷ Xs) [] some_d some_e first second = absurd second
