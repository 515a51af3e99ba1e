pub mod Flows
pub mod Laws
pub use Rattle.plan_sources.specs.Flows.{HasFlows, NoPlanFlows, rise, sources_of, zones_of}
unfoldable pub use Rattle.plan_sources.specs.Flows.{flows_of}
pub use Rattle.plan_sources.specs.Laws.{EncloseMore, PlanFlowsEnclose, PlanStepsHaveFlows}
