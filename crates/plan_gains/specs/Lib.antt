pub mod Gains
pub use Rattle.plan_gains.specs.Gains.{AreNets, HasBranches, HasBranchesOf, IsSmall, branch_gain, branches_of, by_balance, counts, gain_limit, is_small, known}
pub use Rattle.plan_gains.specs.Gains.{listed, lower_total, net_of, net_or_large, of_drains, of_evaps, of_rivers, ramps, source, tighter, tighter_of, total_of}
pub use Rattle.plan_gains.specs.Gains.{turned, upper_total, well_gain}
unfoldable pub use Rattle.plan_gains.specs.Gains.{gains, sources_or_large, sum_or_large, sums_or_large, term_gain}
