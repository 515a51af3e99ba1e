-- Two plans' histories are histories between two decks, and each choice of weathers has one of each.
use Rattle.plan_histories.proofs.Common.{◌≡◌, ℕ, subst, sym, List, [], ◌∷◌, length, map, ℤ, flat_map, range_with_len, Fraction, Entry, FlowModel, start_head, times, heads_of, as_many, period_is}
use Rattle.plan_histories.proofs.Common.{with_plan, PairsAreHistories, PairsHaveOne, SolvesPairsFrom, AllZip, Contains, IsModel, SolvesAt, Choice, IsBetween, IsChoiceBetween, SolvesChoicesFrom}
use Rattle.plan_histories.proofs.Common.{own_choice}
use Rattle.model_types.specs.declared.time_steps.TimeStep.{TimeStep}
use Rattle.deck_span.proofs.{OwnChoices.models_give, OwnChoices.models_solve, SameFrames.starts_between}
use Rattle.problem_builder.proofs.TimesOf.{time_of}
use Rattle.step_chain.proofs.Histories.{first_in, next_in}
use Rattle.step_chain.specs.{two}
use Rattle.exact_histories.proofs.ChosenHistories.{choices_one}
use Rattle.plan_wells.proofs.Between.{planned_lie_between}

-- wells change no time step
pub times_same : (m : FlowModel) (plan : List (List Entry)) → length plan ≡ length m.periods → times (with_plan plan m) ≡ times m
unfolding times
times_same m plan long =
    λ i. flat_map (λ p. map (λ n. record { period = p; step = n }) (range_with_len 1 ((period_is m plan p long) i).nstp)) (range_with_len 1 ((as_many m.periods plan long) i))

-- choices between two decks for these times, and vectors that solve them in turn
abbrev HaveChoices : FlowModel → FlowModel → ℕ → (ℕ → Fraction) → List TimeStep → List (ℕ → ℤ) → Type 0
HaveChoices a b d old ats Xs = (xs : List Choice) × AllZip (IsChoiceBetween a b) ats xs × SolvesChoicesFrom a d old ats xs Xs

module _ (a b : FlowModel) (valid : IsModel a) (d : ℕ) where
  -- a model between gives one choice more
  one_more : (at : TimeStep) (ats : List TimeStep) → Contains (times a) at → (old : ℕ → Fraction) (X : ℕ → ℤ) (Xs : List (ℕ → ℤ)) (m : FlowModel) → IsBetween a m b →
      SolvesAt m at old d X → HaveChoices a b d (heads_of d X) ats Xs → HaveChoices a b d old (at ∷ ats) (X ∷ Xs)
  one_more at ats time old X Xs m between h (xs, chosen, solved) = (
    own_choice m at ∷ xs,
    (models_give a m b at valid (time_of a at valid time).step.1 between, chosen),
    (models_solve a m b at old d X between h, solved),
  )

module _ (a b : FlowModel) (plan : List (List Entry)) (d : ℕ) where
  base_from : IsModel a → (old older : ℕ → Fraction) (ats : List TimeStep) → ((at : TimeStep) → Contains ats at → Contains (times a) at) → (Xs Ys : List (ℕ → ℤ)) →
      SolvesPairsFrom (two a b) plan d old older ats Xs Ys → HaveChoices a b d old ats Xs
  base_from valid old older [] these [] [] h = ([], tt, tt)
  base_from valid old older (at ∷ ats) these (X ∷ Xs) (Y ∷ Ys) h =
      one_more a b valid d at ats (these at (first_in at ats)) old X Xs h.0.model h.0.member h.0.base
      (base_from valid (heads_of d X) (heads_of d Y) ats (λ u k. these u (next_in at ats u k)) Xs Ys h.1)
  base_from valid old older _ these _ _ h = absurd h

  planned_from : IsModel (with_plan plan a) → (old older : ℕ → Fraction) (ats : List TimeStep) →
      ((at : TimeStep) → Contains ats at → Contains (times (with_plan plan a)) at) → (Xs Ys : List (ℕ → ℤ)) →
      SolvesPairsFrom (two a b) plan d old older ats Xs Ys → HaveChoices (with_plan plan a) (with_plan plan b) d older ats Ys
  planned_from valid old older [] these [] [] h = ([], tt, tt)
  planned_from valid old older (at ∷ ats) these (X ∷ Xs) (Y ∷ Ys) h =
      one_more (with_plan plan a) (with_plan plan b) valid d at ats (these at (first_in at ats)) older Y Ys (with_plan plan h.0.model) (planned_lie_between plan a h.0.model b h.0.member) h.0.planned
      (planned_from valid (heads_of d X) (heads_of d Y) ats (λ u k. these u (next_in at ats u k)) Xs Ys h.1)
  planned_from valid old older _ these _ _ h = absurd h

pub pairs_are_histories : PairsAreHistories
pairs_are_histories a b plan d Xs Ys valid planned_valid long pairs =
    let first = start_head pairs.first in
    let times_are = times_same a plan long in
    let (xs, chosen, solved) = base_from a b plan d valid first first (times a) (λ at k. k) Xs Ys pairs.steps in
    let within = λ (at : TimeStep) (k : Contains (times a) at). subst (λ (ats : List TimeStep). Contains ats at) (sym times_are) k in
    let (ys, planned_chosen, planned_solved) = planned_from a b plan d planned_valid first first (times a) within Xs Ys pairs.steps in
    let with_wells = planned_lie_between plan a pairs.first b pairs.member in (
      record {
        start = first;
        choices = xs;
        between = record { starts = starts_between a pairs.first b pairs.member; steps = chosen };
        solves = record { some = pairs.some; steps = solved };
      },
      record {
        start = first;
        choices = ys;
        between = record {
          starts = starts_between (with_plan plan a) (with_plan plan pairs.first) (with_plan plan b) with_wells;
          steps = subst (λ (ats : List TimeStep). AllZip (IsChoiceBetween (with_plan plan a) (with_plan plan b)) ats ys) (sym times_are) planned_chosen;
        };
        solves = record {
          some = pairs.some;
          steps = subst (λ (ats : List TimeStep). SolvesChoicesFrom (with_plan plan a) d first ats ys Ys) (sym times_are) planned_solved;
        };
      },
    )

pub pairs_have_one : PairsHaveOne
pairs_have_one limits a b plan s kind other xs ys base planned = (
  choices_one limits a b s kind xs base,
  choices_one limits (with_plan plan a) (with_plan plan b) s other ys planned,
)
