pub mod Laws
pub use Rattle.step_or_refusal.specs.Laws.{BarrierOrRefusal, CutBarrierOrRefusal, ListingOrRefusal, StepOrRefusal}
