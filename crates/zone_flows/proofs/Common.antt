-- Names that several proofs of this crate cite, of the crates below and of its own definitions, passed on from one place. Declares nothing.
pub use Rattle.std.proofs.Common.{All, Bool, Err, List, None, Ok, Option, Result, Some, [], ap, append_assoc, arith, cond, false, get_or, inl, inr, length, map, neg_ℤ, negsuc, pos, refl, slice_index}
pub use Rattle.std.proofs.Common.{subst, suc, sym, take, true, unsigned_abs, zero, ℕ, ℤ, ◌%◌, ◌*◌, ◌++◌, ◌+ℤ◌, ◌+◌, ◌-ℤ◌, ◌/◌, ◌<ℤ◌, ◌<◌, ◌∙◌, ◌∷◌, ◌≡◌, ◌≤ℤ◌, ◌≤◌}
pub use Rattle.std.proofs.{lemmas.Bool.and_parts, lemmas.Bool.cases_lt, lemmas.Bool.true≢false, lemmas.Int.clamps, lemmas.Int.ints, lemmas.List.append-nil, lemmas.List.map-append}
pub use Rattle.std.proofs.{lemmas.List.take_all, lemmas.List.take_more, lemmas.List.Elements.All-cons, lemmas.List.Elements.All-from_get_or, lemmas.List.Elements.All-head}
pub use Rattle.std.proofs.{lemmas.List.Elements.All-nil, lemmas.List.Elements.All-tail, lemmas.List.Elements.All-weaker, lemmas.List.Elements.filter-append}
pub use Rattle.std.specs.{Int.Signed.lt_z, List.AllZip, List.filter, List.flat_map, Map.values_of}
pub use Rattle.std.specs.Prelude.{IfOk, IfSome, if◌then◌else◌, ◌||◌}
pub use Rattle.budget_bounds.specs.{IsSum, capped_term, no_pair, part, plus_pair, term_limit, ◌>>=◌}
unfoldable pub use Rattle.budget_bounds.specs.{parts}
pub use Rattle.budget_bounds.specs.declared.pair.TermPair.{TermPair}
pub use Rattle.cell_balance.specs.{CellEncloses, EnclosesStep, ExactCell, ExactFixed, ExactLink, FixedEncloses, LinkEncloses, cell_at, minus}
pub use Rattle.decimal_input.specs.{Encloses, EnclosesSigned, Fraction, Ratio, as_fraction}
pub use Rattle.step_problem.specs.{IsProblem, entries_at, least, most, no_entries, no_link, total, Entries.Entries, declared.entry.Fixed.Fixed, declared.entry.FixedKind.TheVariants.Constant}
pub use Rattle.step_problem.specs.{declared.entry.FixedKind.TheVariants.General, declared.entry.FixedKind.TheVariants.Storage, declared.entry.Link.Link, declared.place.NoBound.NoBound}
pub use Rattle.step_problem.specs.{declared.place.ZoneFlow.ZoneFlow}
pub use Rattle.zone_flows.specs.{AreSums, EncloseEveryStep, ExactFace, Face, Gains, HeadsLieWithin, IsZoneSum, Returns, add_flow, exact_by_kind, exact_fixed, exact_flow, exact_link, faces_by_kind}
pub use Rattle.zone_flows.specs.{faces_in, fixed_faces, flow_or_large, flow_or_refusal, from_to, is_between, is_exact_between, is_lower_zone, is_small, kind_faces, link_faces, no_flows, pair_flow}
pub use Rattle.zone_flows.specs.{share, zone_flow, declared.sum.ZoneSum.ZoneSum}
unfoldable pub use Rattle.zone_flows.specs.{cell_faces, each_or_first, exact_cell, exact_faces, exact_from, face_from, faces, flows_between, plus_flows, zone_flows}
pub use Rattle.zone_pairs.specs.{pair_of, pairs_below, zones_of_flow}
