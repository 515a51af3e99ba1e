pub mod NetTerms
pub mod Worked
pub mod LoneCell
pub use Rattle.exact_budgets.specs.LoneCell.{IsAlone, LoneCellsHaveTheirFlows, inflow_from, is_constant, own_zone}
pub use Rattle.exact_budgets.specs.NetTerms.{AllNetTermsLie, CertifiedHaveTheirTimes, NetTermsLie, NetTermsLieAt, NetTermsLieInTheOthers, SolutionsBalance}
pub use Rattle.exact_budgets.specs.NetTerms.{StepsHaveTheirTimes, lower_by_others, net_flow, net_lower, net_upper, others, upper_by_others}
pub use Rattle.exact_budgets.specs.Worked.{MiddleCell, PumpedCell, five, middle_step, own_zones, pumped_budget, pumped_step}
