pub mod Steps
pub mod Balance
pub mod Enclosures
pub mod Laws
pub mod Example
pub use Rattle.cell_balance.specs.Balance.{IsClosed, LiesBelow, LiesBetween, SolvesStep, balance, deep_flow, deep_river, drain_flow, evap_flow, fixed_flow}
pub use Rattle.cell_balance.specs.Balance.{full_rate, greater, lesser, link_flow, minus, river_flow, share, total_below, total_inside}
pub use Rattle.cell_balance.specs.Enclosures.{CellEncloses, DrainEncloses, EnclosesSolutions, EnclosesStep, EvapEncloses, FixedEncloses, FlowEncloses}
pub use Rattle.cell_balance.specs.Enclosures.{IsAnchored, IsCarried, IsComponent, IsHeldBelow, Leads, LeadsTo, LinkEncloses, RiverEncloses, deep_low, sum_below}
pub use Rattle.cell_balance.specs.Enclosures.{sum_inside}
pub use Rattle.cell_balance.specs.Example.{example_barrier, example_heads, example_highs, example_lows, example_problem, example_step, first_cell}
pub use Rattle.cell_balance.specs.Example.{first_entries, one, second_cell, second_entries, third_cell, third_entries}
pub use Rattle.cell_balance.specs.Laws.{BalanceFalls, BalanceRises, BoundsHold, Compares, DrainLaws, DryLaw, EvapLaws, FixedLaws, FlowsAreRight, IsBelow}
pub use Rattle.cell_balance.specs.Laws.{IsComparable, LinksCancel, RiverLaws, over_difference}
pub use Rattle.cell_balance.specs.Steps.{AreLinked, ExactCell, ExactDrain, ExactEvap, ExactFixed, ExactFlow, ExactLink, ExactRiver, HasEqualEnds, HasLinkBack}
pub use Rattle.cell_balance.specs.Steps.{cell_at, no_cell, no_link}
