-- Names that several proofs of this crate cite, of the crates below and of its own definitions, passed on from one place. Declares nothing.
pub use Rattle.std.proofs.Common.{All, Contains, List, None, Option, Some, [], ap, arith, drop, get_or, length, map, map-id, max, min, refl, subst, suc, sym, take, zero, ℕ, ℤ, ◌++◌, ◌+◌, ◌<◌, ◌^◌}
pub use Rattle.std.proofs.Common.{◌∙◌, ◌∷◌, ◌≡◌, ◌≤◌}
pub use Rattle.std.proofs.{lemmas.Int.clamps, lemmas.Int.ints, lemmas.List.get_or-map, lemmas.List.get_or_default, lemmas.List.length-map, lemmas.List.map-append, lemmas.List.take_more}
pub use Rattle.std.specs.Int.{int_max, int_min}
pub use Rattle.problem_hull.specs.{AreAlike, IsHull, IsHullOf, IsHullPair, IsTooLarge, IsUnlike, cell_hull, cell_shape, drain_hull, drain_shape, evap_hull, evap_shape, first_refusal, fixed_hull}
pub use Rattle.problem_hull.specs.{fixed_shape, flow_hull, flow_shape, link_hull, link_shape, refusal_at, river_hull, river_shape, zip_with}
unfoldable pub use Rattle.problem_hull.specs.{sum_refusal}
pub use Rattle.step_problem.specs.{CellFits, DrainFits, EvapFits, FixedFits, IsHead, IsProblem, LinksFit, RiverFits, cell_limit, conductance_of, entries_at, flow_magnitude, link_at, no_entries}
pub use Rattle.step_problem.specs.Entries.{Entries}
