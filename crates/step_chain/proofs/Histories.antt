-- Histories of choices between two decks lie within the heads of their steps, by induction on the time steps.
use Rattle.step_chain.proofs.Common.{Limits, ◌-◌, ◌<◌, ℕ, inl, inr, List, [], ◌∷◌, Contains, refl, arith, ℤ, Fraction, Bound, FlowModel, TimeStep, heads_of, AreGridHeads, HeadsEnclose, AreDecks}
use Rattle.step_chain.proofs.Common.{IsBefore, StartHeadsFit, StartHeadsEnclose, Solved, LiesWithin, StepEncloses, HeadsFit, PairKind, HistoriesLieWithin, Choice, two, AreSteps, LieWithin, times}
use Rattle.step_chain.proofs.Common.{In-Contains, IsChoiceBetween, SolvesChoicesFrom}
use Rattle.model_types.proofs.Members.{Contains-In}
use Rattle.std.specs.List.{AllZip}

pub first_in : (t : TimeStep) (ts : List TimeStep) → Contains (t ∷ ts) t
first_in t ts = Contains-In (t ∷ ts) t (inl refl)

pub next_in : (t : TimeStep) (ts : List TimeStep) (u : TimeStep) → Contains ts u → Contains (t ∷ ts) u
next_in t ts u h = Contains-In (t ∷ ts) u (inr (In-Contains ts u h))

-- heads over d that lie within bounds, as fractions
pub lies_encloses : (m : FlowModel) (new : List Bound) (d : ℕ) (X : ℕ → ℤ) → 0 < d → LiesWithin m new d X → HeadsEnclose m new (heads_of d X)
lies_encloses m new d X some h c active = grind (arith)

module _ (step_encloses : StepEncloses) (heads_fit : HeadsFit) (limits : Limits) (a b : FlowModel) (s : ℕ) (kind : PairKind) (decks : AreDecks (two a b)) where
  all_within : (ats : List TimeStep) (these : (at : TimeStep) → Contains ats at → Contains (times a) at) (old : List Bound) (xs : List Solved) (ys : List Choice)
      (before : ℕ → Fraction) (d : ℕ) (Xs : List (ℕ → ℤ)) → AreGridHeads a old → HeadsEnclose a old before → 0 < d → AreSteps limits (two a b) s kind old ats xs →
      AllZip (IsChoiceBetween a b) ats ys → SolvesChoicesFrom a d before ats ys Xs → LieWithin a d xs Xs
  all_within [] these old [] [] before d [] grid olds some steps chosen h = tt
  all_within (at ∷ ats) these old (x ∷ xs) (y ∷ ys) before d (X ∷ Xs) grid olds some steps chosen h =
      let start : IsBefore (two a b) at old = record { decks = decks; time = these at (first_in at ats); heads = grid } in
      let move = step_encloses limits (two a b) s at old kind x start steps.0 y chosen.0 before d X (record { within = olds; some = some; solves = h.0 }) in (
        move.heads,
        all_within ats (λ u k. these u (next_in at ats u k)) x.heads xs ys (heads_of d X) d Xs (heads_fit limits (two a b) s at old kind x start steps.0)
            (lies_encloses a x.heads d X some move.heads) some steps.1 chosen.1 h.1,
      )
  all_within [] these old [] [] before d (X ∷ Xs) grid olds some steps chosen h = absurd h
  all_within [] these old [] (y ∷ ys) before d Xs grid olds some steps chosen h = absurd chosen
  all_within [] these old (x ∷ xs) ys before d Xs grid olds some steps chosen h = absurd steps
  all_within (at ∷ ats) these old [] ys before d Xs grid olds some steps chosen h = absurd steps
  all_within (at ∷ ats) these old (x ∷ xs) [] before d Xs grid olds some steps chosen h = absurd chosen
  all_within (at ∷ ats) these old (x ∷ xs) (y ∷ ys) before d [] grid olds some steps chosen h = absurd h

pub histories_within : StartHeadsFit → StartHeadsEnclose → StepEncloses → HeadsFit → HistoriesLieWithin
histories_within starts_fit starts_enclose step_encloses heads_fit limits a b s kind xs all start ys are d Xs h =
    all_within step_encloses heads_fit limits a b s kind all.decks (times a) (λ at k. k) all.start xs ys start d Xs (starts_fit (two a b) all.start all.decks all.is_start)
    (starts_enclose (two a b) all.start all.decks all.is_start start are.starts) h.some all.steps are.steps h.steps
