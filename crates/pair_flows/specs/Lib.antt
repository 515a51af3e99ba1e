pub mod Balances
pub mod Branches
pub mod PumpedCell
pub use Rattle.pair_flows.specs.Balances.{AreComparable, CellFlows, OrderLaw, SignsEnclose, balance, gain_from_first}
pub use Rattle.pair_flows.specs.Branches.{DownwardLaw, GentleLaw, GentleOrderLaw, LowerHeadLaw, UpperHeadLaw, UpwardLaw, half_conductance, horizontal_flow}
pub use Rattle.pair_flows.specs.Branches.{saturated_thickness}
pub use Rattle.pair_flows.specs.PumpedCell.{HasTwoSolutions}
