pub mod Enclosure
pub mod Listed
pub mod Worked
pub use Rattle.water_enclosure.specs.Enclosure.{FlowsLieAt, FlowsLieFrom, GreaterBalancesLieLower, OwnFlowsAreAtMost, SignsEncloseFlows, SignsEncloseHistories}
pub use Rattle.water_enclosure.specs.Listed.{flow_unit, pair_of}
pub use Rattle.water_enclosure.specs.Worked.{HasOneGentleHead}
