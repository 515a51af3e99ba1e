pub mod Flows
pub use Rattle.gentle_zones.specs.Flows.{FlowsHold, HasNoFlows, ZonesHold, flows_at, zone_problem}
