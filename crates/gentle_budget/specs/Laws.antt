-- The budget at the listed heads of a step holds for the histories of gentle heads within them.
use Rattle.std.specs.Prelude.{◌≡◌, ℕ, ℤ, ◌+◌, List, Ok, Contains}
use Rattle.decimal_input.specs.{EnclosesSigned, Fraction}
use Rattle.step_problem.specs.{declared.heads.Bound.Bound, declared.place.Dir.Dir, declared.place.Term.Term, Entries.Entries}
use Rattle.budget_bounds.specs.{declared.pair.Budget.Budget, bounds_in}
use Rattle.model_types.specs.{declared.model.FlowModel.FlowModel, declared.time_steps.TimeStep.TimeStep, IsModel, times}
use Rattle.problem_builder.specs.{AreGridHeads, HeadsEnclose}
use Rattle.water_table.specs.{declared.convertible_layers.ConvertibleLayers.ConvertibleLayers, heads_at, with_yield}
use Rattle.water_enclosure.specs.{pair_of}
use Rattle.gentle_terms.specs.{TermsLieAt}
unfoldable use Rattle.gentle_terms.specs.{water_term}
use Rattle.gentle_steps.specs.{HeadsHold}
use Rattle.gentle_budget.specs.Budgets.{budget_at}

-- Each In and Out at the heads h, where those before the step are `old`, lies between the two bounds that the budget has for it, in units of 10^-(s+9).
abbrev pub BudgetHolds : ℕ → FlowModel → ConvertibleLayers → TimeStep → (ℕ → Fraction) → (ℕ → Fraction) → Budget → Type 0
BudgetHolds s m w at old h b = (dir : Dir) (t : Term) → EnclosesSigned (bounds_in b dir t).lo (bounds_in b dir t).hi (s + 9) (water_term m w at old h dir t)

-- Where listed heads hold, their budget holds for all heads whose terms lie between those at the listed heads, from exact heads within the old ones.
abbrev pub BudgetsHold : Type 0
BudgetsHold = (m : FlowModel) (w : ConvertibleLayers) (s : ℕ) (at : TimeStep) (old listed : List Bound) (p q : List Entries) (b : Budget)
    (low before high : ℕ → Fraction) (d : ℕ) (X : ℕ → ℤ) → IsModel m → IsModel (with_yield m w) → Contains (times m) at → AreGridHeads m listed →
    HeadsEnclose m old low → HeadsEnclose m old high → HeadsHold m w s at old listed p q → budget_at m w s at old listed p q ≡ Ok b →
    ((dir : Dir) (t : Term) → TermsLieAt m w at low before high d X (pair_of listed) dir t) → BudgetHolds s m w at before (heads_at m at d X) b
