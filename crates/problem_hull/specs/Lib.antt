pub mod Hulls
pub mod Refusals
pub use Rattle.problem_hull.specs.Hulls.{AreAlike, IsHull, IsHullOf, IsHullPair, cell_hull, cell_shape, drain_hull, drain_shape, evap_hull, evap_shape}
pub use Rattle.problem_hull.specs.Hulls.{fixed_hull, fixed_shape, flow_hull, flow_shape, link_hull, link_shape, river_hull, river_shape, zip_with}
pub use Rattle.problem_hull.specs.Refusals.{HullExcludesRefusal, HullOfOne, IsHullFault, IsTooLarge, IsUnlike, first_refusal, refusal_at}
unfoldable pub use Rattle.problem_hull.specs.Refusals.{sum_refusal}
