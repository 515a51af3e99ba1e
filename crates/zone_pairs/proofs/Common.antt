-- Names that several proofs of this crate cite, of the crates below and of its own definitions, passed on from one place. Declares nothing.
pub use Rattle.std.proofs.Common.{All, Bool, List, None, Option, Some, [], ap, arith, cond, false, filter, flat_map, get_or, inl, inr, length, map, refl, suc, sym, take, true, zero, ℕ, ◌&&◌, ◌*◌}
pub use Rattle.std.proofs.Common.{◌++◌, ◌+◌, ◌<◌, ◌||◌, ◌∙◌, ◌∷◌, ◌≡◌, ◌≤◌, ◌⊎◌}
pub use Rattle.std.proofs.lemmas.Bool.{and_from, and_parts, cases_order, eqb-true, leb-true, or_cases, or_left, or_right}
pub use Rattle.std.proofs.lemmas.List.{map-append, take_all}
pub use Rattle.std.specs.{List.AllByRecursion, List.list_any, List.range_with_len, Ordering.nat_cmp}
pub use Rattle.model_types.specs.{cell_count, faces, is_active, is_variable, variable_cells, declared.model.FlowModel.FlowModel}
unfoldable pub use Rattle.model_types.specs.{variable_below}
pub use Rattle.zone_pairs.specs.{AreNumbers, Gains, joins, joins_by, pair_of, pairs_in, declared.pair.ZonePair.ZonePair}
unfoldable pub use Rattle.zone_pairs.specs.{pairs_below, share_face, zone_pairs}
