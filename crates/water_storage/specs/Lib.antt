pub mod Stored
pub use Rattle.water_storage.specs.Stored.{ArePairs, IsSmallPair, IsTop, StoredFlowsEnclose, both_of, confined_flow, crossing_flow, crossing_of, fall_flow}
pub use Rattle.water_storage.specs.Stored.{fall_on, greater_bound, lesser_bound, stored_flow, top_bound, yield_pair}
