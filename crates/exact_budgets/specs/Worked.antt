-- A step that is solved by hand, and a listed budget of it. Lengths in metres, flows in cubic metres per day.
use Rattle.std.specs.Prelude.{◌≡◌, ℕ, ◌*◌, List, [], ◌∷◌, pos, neg_ℤ, ℤ, ◌+◌}
use Rattle.decimal_input.specs.{whole, Fraction, Fractions.Same}
use Rattle.step_problem.specs.declared.place.Term.TheVariants.{Storage}
use Rattle.cell_balance.specs.{ExactCell, ExactFixed, SolvesStep, one}
use Rattle.budget_bounds.specs.{declared.pair.TermPair.TermPair, declared.pair.Budget.Budget, no_pair, BudgetEncloses}
use Rattle.flow_equations.specs.{heads_of}
use Rattle.exact_budgets.specs.NetTerms.{net_flow, net_lower, net_upper, lower_by_others, upper_by_others}
use Rattle.zone_flows.specs.{exact_faces, exact_flow}
use Rattle.exact_budgets.specs.LoneCell.{IsAlone, inflow_from}
use Rattle.step_problem.specs.declared.entry.FixedKind.TheVariants as kinds
use Rattle.step_problem.specs.declared.entry.FlowKind.TheVariants as packages

-- One cell with a storage of 1 m2/d, whose head was 10 before the step, and a well that takes 5: its new head is 5.
abbrev pub pumped_step : List ExactCell
pumped_step = record {
  id = 0;
  flows = record { kind = packages.Wells; flow = whole (neg_ℤ (pos 5)) } ∷ [];
  links = [];
  fixed = record { kind = kinds.Storage; source = 0; conductance = one; head = whole (pos 10) } ∷ [];
  rivers = [];
  drains = [];
  evaps = [];
} ∷ []

abbrev pub five : ℕ → ℤ
five c = pos 5

-- flows from a to b, which are whole, in units of 10^-9
abbrev pub units : ℕ → ℕ → TermPair
units a b = record { lo = pos (a * 1000000000); hi = pos (b * 1000000000) }

-- What is listed of it: STORAGE gives from 4 to 6, and WELLS takes 5.
abbrev pub pumped_budget : Budget
pumped_budget = record {
  into = units 4 6 ∷ no_pair ∷ no_pair ∷ no_pair ∷ no_pair ∷ no_pair ∷ no_pair ∷ no_pair ∷ [];
  out = no_pair ∷ no_pair ∷ units 5 5 ∷ no_pair ∷ no_pair ∷ no_pair ∷ no_pair ∷ no_pair ∷ [];
}

-- The net flow of STORAGE is 5. By what is listed of it, it lies from 4 to 6, and by the other terms it is 5.
pub record PumpedCell : Type 0 where
  pub solved : SolvesStep pumped_step 1 five
  pub encloses : BudgetEncloses 0 pumped_step (heads_of 1 five) pumped_budget
  pub net : Same (net_flow pumped_step (heads_of 1 five) Storage) (whole (pos 5))
  pub listed : (net_lower pumped_budget Storage ≡ pos 4000000000) × (net_upper pumped_budget Storage ≡ pos 6000000000)
  pub by_others : (lower_by_others pumped_budget Storage ≡ pos 5000000000) × (upper_by_others pumped_budget Storage ≡ pos 5000000000)

-- Three cells in a row, each in a zone of its own, of which the middle one is variable: conductances of 1, and heads of 10, 15 and 20.
abbrev pub constant_head : ℕ → ℕ → ExactFixed
constant_head source head = record { kind = kinds.Constant; source = source; conductance = one; head = whole (pos head) }

abbrev pub middle_step : List ExactCell
middle_step = record { id = 1; flows = []; links = []; fixed = constant_head 0 10 ∷ constant_head 2 20 ∷ []; rivers = []; drains = []; evaps = [] } ∷ []

abbrev pub own_zones : List ℕ
own_zones = 1 ∷ 2 ∷ 3 ∷ []

abbrev pub rising : ℕ → Fraction
rising c = whole (pos (10 + 5 * c))

-- the middle cell is alone in zone 2; -5 flows from zone 1 to zone 2, and from zone 2 to zone 3
pub record MiddleCell : Type 0 where
  pub alone : IsAlone own_zones middle_step 0
  pub from_first : Same (exact_flow 1 2 (exact_faces own_zones rising middle_step)) (whole (neg_ℤ (pos 5)))
  pub to_last : Same (exact_flow 2 3 (exact_faces own_zones rising middle_step)) (whole (neg_ℤ (pos 5)))
  pub inflow_from_first : Same (inflow_from own_zones middle_step 0 rising 1) (whole (neg_ℤ (pos 5)))
  pub inflow_from_last : Same (inflow_from own_zones middle_step 0 rising 3) (whole (pos 5))
