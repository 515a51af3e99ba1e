pub mod Bounds
pub mod Cuts
pub mod Barriers
pub mod Searches
pub mod Marks
pub mod Roots
pub use Rattle.barrier_vector.specs.Barriers.{BarrierExcludesRefusal, BarrierIsCut, BarrierIsOne, CeilingsEnclose, ClampedFits, CutBarrierExcludesRefusal}
pub use Rattle.barrier_vector.specs.Barriers.{CutBarrierIsOne, CutRefusalIsOne, FloorsEnclose, FloorsHold, IsBarrierOf, IsSolution, RefusalIsOne}
pub use Rattle.barrier_vector.specs.Bounds.{AnchorRoot, IsAnchorPath, IsAnchoredBound, IsBoundOn, IsCarriedFloor, IsCellCeiling, IsCellFloor, IsInnerPath}
pub use Rattle.barrier_vector.specs.Bounds.{IsLevel, IsLongest, IsParent, IsPath, IsUnanchored, LeadsToRoot, LeastRoot, SumsTo, anchor_on, ceil_over, greatest}
pub use Rattle.barrier_vector.specs.Bounds.{moved_out}
pub use Rattle.barrier_vector.specs.Cuts.{AreCutBounds, EnclosesUncut, HasNoBound, HasStorage, IsCutBarrierOf, IsCutBoundOn, IsCutFault, IsFault, IsLeastWith}
pub use Rattle.barrier_vector.specs.Cuts.{IsNotForLackOfAnchors, IsOutOfRange, IsRefused, IsRefusedOn, IsUnbounded, LeavesRange, Names, Nowhere, Refuses}
pub use Rattle.barrier_vector.specs.Cuts.{RefusesOn, clamp, clamped_edges, cut_on, no_barrier_on, range_on}
pub use Rattle.barrier_vector.specs.Marks.{base_on, capped_flow, cell_mark, drain_mark, fixed_mark, high_flow, if_some, lack, need, need_on, outer_of}
pub use Rattle.barrier_vector.specs.Marks.{outermost, river_mark}
pub use Rattle.barrier_vector.specs.Roots.{AreAnchorDrops, AreAnchorPaths, AreBounds, AreComponents, AreHeadsOf, AreSelfDrops, IsAnchoredOrNone, IsBoundOrNone}
pub use Rattle.barrier_vector.specs.Roots.{IsCutFaultOn, IsFaultOn, IsFirst, IsMissing, IsOutline, IsWholeSide, LiesOut, anchor_drop, bound_at, self_drop}
pub use Rattle.barrier_vector.specs.Searches.{AreBegun, AreLabels, ContinuesTo, Fills, FrontLeads, HasEach, IsNearest, IsNearestOrNone, IsSearched, LinkLeads}
pub use Rattle.barrier_vector.specs.Searches.{ListRoot, Spreads, count_unmarked, flow_sum, greatest_inside, has_label, is_label, longest_at, mark_at}
pub use Rattle.barrier_vector.specs.Searches.{path_limit, sum_at}
