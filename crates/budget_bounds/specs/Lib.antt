pub mod Terms
pub mod Exact
pub use Rattle.budget_bounds.specs.Exact.{AreHeads, AreSums, AreWithin, BudgetEncloses, CoverEncloses, Covers, EnclosesBudgets, HeadsAreWithin, IsFirstShort}
pub use Rattle.budget_bounds.specs.Exact.{IsFirstUncovered, IsFlow, IsPartOfFlow, IsSum, ReachesAsFar, capped_term, exact_fixed_of, exact_part, line_of}
pub use Rattle.budget_bounds.specs.Exact.{plus_pair, sum_of}
unfoldable pub use Rattle.budget_bounds.specs.Exact.{exact_singles, exact_term, term_or_refusal, tested_budget, tested_terms}
pub use Rattle.budget_bounds.specs.Terms.{all_terms, bounds_in, entry_pair, fixed_of, fixed_term, flow_pair, flow_term, flows_of, is_small, is_term, no_pair}
pub use Rattle.budget_bounds.specs.Terms.{part, place_of, term_limit, too_large, ◌>>=◌}
unfoldable pub use Rattle.budget_bounds.specs.Terms.{budget_of, parts, singles, term_of, term_pair, terms_of}
