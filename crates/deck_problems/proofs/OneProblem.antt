-- The problem of two decks is the hull of their problems; and what the models and choices of decks share with the first one.
use Rattle.deck_problems.proofs.Common.{◌≡◌, ℕ, Option, Some, None, List, map, sym, subst, Contains, ◌<◌, ◌∙◌, ◌∷◌, refl, Bound, Entries, FlowModel, TimeStep, times, IsModel, cell_count, is_variable}
use Rattle.deck_problems.proofs.Common.{is_constant, index_of, is_active, IsProblemOf, IsActive, HeadsEnclose, IsHull, IsProblemBy, one_deck, AreDecks, zip_with, ap, [], ◌&&◌, not, Fraction}
use Rattle.deck_problems.proofs.Common.{IsBetween, variable_cells, start_head, Decks, unless_parts, Result, Ok, Err, option_to_list, NoBound, problem_of, cell_hull, first_refusal, AreAlike}
use Rattle.deck_problems.proofs.Common.{hull_or_refusal, ExactCell, Choice, IsStepBetween, IsChoiceOf, IsOwnChoice, step_from, own_choice, none, next, ℤ, SolvesChoiceAt, SolvesStep}
use Rattle.deck_span.proofs.{SameFrames.count_is, SameFrames.active_is, SameFrames.variable_same, SameFrames.index_is, SameFrames.times_are, OwnChoices.own_step}
use Rattle.flow_equations.specs.{exact_step, SolvesAt, variable_heads}
use Rattle.flow_equations.proofs.Links.{ids_are}
use Rattle.deck_problems.proofs.ProblemsAlike.{problems_alike}

-- the problem of two models is the hull of their problems, and no sum of it is too large
pub record IsHullProblem (a b : FlowModel) (s : ℕ) (at : TimeStep) (old : List Bound) (r : List Entries) : Type 0 where
  pub first : List Entries
  pub is_first : IsProblemOf a s at old first
  pub second : List Entries
  pub is_second : IsProblemOf b s at old second
  pub hull : IsHull first second r
  pub sound : first_refusal r ≡ None

none_listed : {X : Type 0} (o : Option X) → option_to_list o ≡ [] → o ≡ None
none_listed None e = refl
none_listed (Some x) e = absurd cc

pub hull_parts : (a b : FlowModel) (s : ℕ) (at : TimeStep) (old : List Bound) (r : List Entries) → IsModel a → AreAlike a b → IsProblemBy a (Some b) s at old r → IsHullProblem a b s at old r
hull_parts a b s at old r valid alike = parts (problem_of a s at old) (problem_of b s at old) refl refl
  where
    parts : (x y : Result (List Entries) NoBound) → problem_of a s at old ≡ x → problem_of b s at old ≡ y → hull_or_refusal x y ≡ Ok r → IsHullProblem a b s at old r
    parts (Err n) y i j e = absurd cc
    parts (Ok p) (Err n) i j e = absurd cc
    parts (Ok p) (Ok q) i j e =
        let (is, sound) = unless_parts (option_to_list (first_refusal (zip_with cell_hull p q))) (zip_with cell_hull p q) r e in
        record {
          first = p;
          is_first = i;
          second = q;
          is_second = j;
          hull = record { alike = problems_alike a b s at old p q valid alike i j; is = is };
          sound =
              ap first_refusal is ∙ none_listed _ sound;
        }

-- The models of decks, and what they share with the first deck.
-- one valid deck meets the conditions on decks
pub one_valid : (m : FlowModel) → IsModel m → AreDecks (one_deck m)
one_valid m valid = record { first = valid; second = tt }

-- the model m has the cells and the times of a
pub record HasCellsOf (a m : FlowModel) : Type 0 where
  pub count : cell_count m.grid ≡ cell_count a.grid
  pub active : (c : ℕ) → is_active m c ≡ is_active a c
  pub variable : (p c : ℕ) → is_variable m p c ≡ is_variable a p c
  pub index : (p c : ℕ) → index_of m p c ≡ index_of a p c
  pub steps : times m ≡ times a

pub between_cells : (a m b : FlowModel) → IsBetween a m b → HasCellsOf a m
between_cells a m b h = record {
  count = count_is a m b h;
  active = active_is a m b h;
  variable = variable_same a m b h;
  index = index_is a m b h;
  steps = times_are a m b h;
}

module _ (a m : FlowModel) (h : HasCellsOf a m) where
  pub constant_same : (p c : ℕ) → is_constant m p c ≡ is_constant a p c
  constant_same p c = λ i. h.active c i && not (h.variable p c i)

  pub cell_of_first : (c : ℕ) → IsActive m c → IsActive a c
  cell_of_first c k = record { within = subst (λ (n : ℕ). c < n) h.count k.within; active = sym (h.active c) ∙ k.active }

  pub encloses_member : (old : List Bound) (before : ℕ → Fraction) → HeadsEnclose a old before → HeadsEnclose m old before
  encloses_member old before olds c k = olds c (cell_of_first c k)

  pub cell_of_member : (c : ℕ) → IsActive a c → IsActive m c
  cell_of_member c k = record { within = subst (λ (n : ℕ). c < n) (sym h.count) k.within; active = h.active c ∙ k.active }

  pub time_of_member : (at : TimeStep) → Contains (times a) at → Contains (times m) at
  time_of_member at k = subst (λ (ts : List TimeStep). Contains ts at) (sym h.steps) k

-- The cells of a choice are the variable cells of the first deck.
ids_between : (es fs gs : List ExactCell) → IsStepBetween es fs gs → map (λ e. e.id) fs ≡ map (λ e. e.id) es
ids_between es fs gs none = refl
ids_between es fs gs (next h hs) = λ i. h.id i ∷ ids_between _ _ _ hs i

choice_cells : (a : FlowModel) (o : Option FlowModel) (at : TimeStep) (x : Choice) → IsChoiceOf a o at x → (before : ℕ → Fraction) →
    map (λ e. e.id) (step_from before x.cells) ≡ variable_cells a at.period
choice_cells a None at x h before = ap (map (λ (e : ExactCell). e.id)) (h.cells before) ∙ ids_are a at.period at.step before
choice_cells a (Some b) at x h before =
    ids_between (exact_step a at.period at.step before) (step_from before x.cells) (exact_step b at.period at.step before) (h.cells before) ∙ ids_are a at.period at.step before

pub chosen_cells : (d : Decks) (at : TimeStep) (x : Choice) → IsChoiceOf d.first d.second at x → (before : ℕ → Fraction) →
    map (λ e. e.id) (step_from before x.cells) ≡ variable_cells d.first at.period
chosen_cells d at x h before = choice_cells d.first d.second at x h before

-- the equations of one deck are its choice
pub own_choice_is : (m : FlowModel) (at : TimeStep) → IsOwnChoice m at (own_choice m at)
own_choice_is m at = record { heads = λ c. refl; cells = own_step m at.period at.step (start_head m) }

-- its solutions are those of the choice
module _ (m : FlowModel) (at : TimeStep) (before : ℕ → Fraction) (d : ℕ) (X : ℕ → ℤ) where
  abbrev Solved : List ExactCell → Type 0
  Solved e = SolvesStep e d (variable_heads e X)

  pub own_solves : SolvesAt m at before d X → SolvesChoiceAt m at (own_choice m at) before d X
  own_solves h = record { constant = h.constant; balances = subst Solved (sym ((own_choice_is m at).cells before)) h.balances }

  pub solves_own : SolvesChoiceAt m at (own_choice m at) before d X → SolvesAt m at before d X
  solves_own h = record { constant = h.constant; balances = subst Solved ((own_choice_is m at).cells before) h.balances }
