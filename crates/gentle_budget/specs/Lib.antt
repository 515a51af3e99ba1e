pub mod Budgets
pub mod Laws
pub use Rattle.gentle_budget.specs.Budgets.{HasNoSideBudget, IsNoBudget, budget_at, joined_budget, joined_pair, joined_term, side_budget, side_words}
pub use Rattle.gentle_budget.specs.Budgets.{storage_term, stored_or_large, stored_pair}
pub use Rattle.gentle_budget.specs.Laws.{BudgetHolds, BudgetsHold}
