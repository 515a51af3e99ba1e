-- The net terms of a volumetric budget, exact and by their bounds (TM 6-A16, chapter 3, the volumetric budget).
use Rattle.std.specs.Prelude.{◌≡◌, ℕ, ◌+◌, not, List, ℤ, pos, neg_ℤ, ◌-ℤ◌, [], ◌∷◌, ◌<◌, map, Bool, Option}
use Rattle.std.specs.List.{filter}
use Rattle.decimal_input.specs.{Fraction, fraction_total, EnclosesSigned, Fractions.Same}
use Rattle.step_problem.specs.{total, declared.place.Dir.Dir, declared.place.Dir.TheVariants.In, declared.place.Dir.TheVariants.Out, declared.place.Term.Term}
use Rattle.cell_balance.specs.{ExactCell, AreLinked, minus, SolvesStep}
use Rattle.budget_bounds.specs.{declared.pair.Budget.Budget, is_term, all_terms, bounds_in, exact_term}
use Rattle.model_types.specs.{declared.model.FlowModel.FlowModel, declared.limits.Limits.Limits, start_head, times, IsModel}
use Rattle.flow_equations.specs.{exact_step, heads_of, variable_heads, Solves}
use Rattle.listing_run.specs.{declared.solving.Step.Step, declared.steps.Task.Task, declared.text.ListingEnd.TheVariants.Whole, AllSteps, one_task}
use Rattle.listing_run.specs.{EnclosesHistories}
use Rattle.deck_problems.specs.{one_deck}
use Rattle.listing_io.specs.declared.listing.ListedStep.{ListedStep}
use Rattle.check_run.specs.{declared.verdict.ListingVerdict.TheVariants.Certified, IsVerdict, steps_of}

-- TOTAL IN or TOTAL OUT: the sum of all terms in this direction
abbrev pub total_flow : List ExactCell → (ℕ → Fraction) → Dir → Fraction
total_flow e h dir = fraction_total (exact_term e h dir) all_terms

-- the net flow of a term into the variable cells: its In less its Out
abbrev pub net_flow : List ExactCell → (ℕ → Fraction) → Term → Fraction
net_flow e h t = minus (exact_term e h In t) (exact_term e h Out t)

-- Inflow less outflow is zero (TM 6-A16, chapter 3, the volumetric budget): TOTAL IN is TOTAL OUT, and the net terms sum to 0.
pub record IsBalanced (e : List ExactCell) (h : ℕ → Fraction) : Type 0 where
  pub in_is_out : Same (total_flow e h In) (total_flow e h Out)
  pub nets : (fraction_total (net_flow e h) all_terms).num ≡ pos 0

-- the terms other than t, in the order of the listing
abbrev pub others : Term → List Term
others t = filter (λ x. not (is_term x t)) all_terms

-- The bounds of a term's net flow that the bounds of its In and Out give.
abbrev pub net_lower : Budget → Term → ℤ
net_lower b t = (bounds_in b In t).lo -ℤ (bounds_in b Out t).hi

abbrev pub net_upper : Budget → Term → ℤ
net_upper b t = (bounds_in b In t).hi -ℤ (bounds_in b Out t).lo

-- The bounds that the other terms leave it: minus the sum of their upper bounds, and minus the sum of their lower ones.
abbrev pub lower_by_others : Budget → Term → ℤ
lower_by_others b t = neg_ℤ (total (net_upper b) (others t))

abbrev pub upper_by_others : Budget → Term → ℤ
upper_by_others b t = neg_ℤ (total (net_lower b) (others t))

-- Each exact net flow of the step e at the heads h lies between both pairs of bounds, in units of 10^-(s+9).
pub record NetTermsLie (s : ℕ) (e : List ExactCell) (h : ℕ → Fraction) (b : Budget) : Type 0 where
  pub listed : (t : Term) → EnclosesSigned (net_lower b t) (net_upper b t) (s + 9) (net_flow e h t)
  pub in_the_others : (t : Term) → EnclosesSigned (lower_by_others b t) (upper_by_others b t) (s + 9) (net_flow e h t)

-- What the steps of a listing say of the budgets of a history of heads.
-- At a step of a listing of a model, with s digits of conductances, the exact budget of the vector X over d is balanced, and
-- its net terms lie between both pairs of bounds, where `before` are the exact heads before it.
pub record NetTermsLieAt (m : FlowModel) (s : ℕ) (v : Step) (before : ℕ → Fraction) (d : ℕ) (X : ℕ → ℤ) : Type 0 where
  pub balanced : IsBalanced (exact_step m v.at.period v.at.step before)
      (heads_of d (variable_heads (exact_step m v.at.period v.at.step before) X))
  pub nets : NetTermsLie s (exact_step m v.at.period v.at.step before)
      (heads_of d (variable_heads (exact_step m v.at.period v.at.step before) X)) v.budget

-- this holds of each step and its vector, in turn
abbrev pub AllNetTermsLie : FlowModel → ℕ → ℕ → (ℕ → Fraction) → List Step → List (ℕ → ℤ) → Type 0
AllNetTermsLie m s d before [] [] = Unit {0}
AllNetTermsLie m s d before (v ∷ values) (X ∷ Xs) = NetTermsLieAt m s v before d X × AllNetTermsLie m s d (heads_of d X) values Xs
AllNetTermsLie m s d before [] (X ∷ Xs) = ⊥
AllNetTermsLie m s d before (v ∷ values) [] = ⊥

-- The volumetric budget of an exact solution.
-- The budget of each solution of a step is balanced. (The steps of a model are linked: `links_are_mutual` of flow_equations.)
abbrev pub SolutionsBalance : Type 0
SolutionsBalance = (e : List ExactCell) (d : ℕ) (X : ℕ → ℤ) → AreLinked e → 0 < d → SolvesStep e d X → IsBalanced e (heads_of d X)

-- Values at the times of a model's steps that enclose its histories: of each history that solves its equations each net
-- term lies between its listed bounds, and in minus the sum of the others.
abbrev pub NetTermsLieInTheOthers : Type 0
NetTermsLieInTheOthers =
    (limits : Limits) (m : FlowModel) (s : ℕ) (zones : Option (List ℕ)) (rounds : ℕ) (quick : Bool) (values : List Step) → IsModel m →
    map (λ v. v.at) values ≡ times m →
    EnclosesHistories (one_task limits m s zones rounds quick) values →
    (d : ℕ) (history : List (ℕ → ℤ)) → Solves m d history → AllNetTermsLie m s d (start_head m) values history

-- The values of a whole listing are at those times, and so are those of a certified one.
abbrev pub StepsHaveTheirTimes : Type 0
StepsHaveTheirTimes = (k : Task) (values : List Step) → AllSteps k values Whole → map (λ v. v.at) values ≡ times k.decks.first

abbrev pub CertifiedHaveTheirTimes : Type 0
CertifiedHaveTheirTimes =
    (limits : Limits) (m : FlowModel) (s : ℕ) (zones : Option (List ℕ)) (steps : List ListedStep) → IsVerdict limits (one_deck m) s zones steps Certified →
    map (λ v. v.at) (steps_of (times m) steps) ≡ times m
