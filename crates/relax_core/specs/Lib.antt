pub mod Kept
pub use Rattle.relax_core.specs.Kept.{AreEdges, Becomes, Core, EdgesAreKept, EventsKeep, EventsKeepHeads, IsInRange, IsKept, IsNamed, IsStart, KeepsHeads}
pub use Rattle.relax_core.specs.Kept.{OnTheWay, Path, Puts, Relaxes, Sees, Step, WasSeen, WereSeen, edge_on, seen_by, with_head}
