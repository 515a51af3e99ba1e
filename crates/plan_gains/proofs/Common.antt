-- Names that several proofs of this crate cite, of the crates below and of its own definitions, passed on from one place. Declares nothing.
pub use Rattle.std.proofs.Common.{Bool, List, [], ap, arith, drop, false, get_or, length, map, pos, refl, subst, suc, sym, true, zero, ℕ, ℤ, ◌+ℤ◌, ◌+◌, ◌<ℤ◌, ◌<◌, ◌∙◌, ◌∷◌, ◌≡◌, ◌≤ℤ◌, ◌≤◌}
pub use Rattle.std.proofs.lemmas.Int.{clamps, ints}
pub use Rattle.std.specs.List.{filter}
pub use Rattle.std.specs.Prelude.{Err, Ok, Result, if◌then◌else◌}
pub use Rattle.budget_bounds.proofs.Caps.{cell_more, filter_all, next_part_capped, nothing_more, parts_hi, parts_lo}
pub use Rattle.budget_bounds.specs.{IsSum, all_terms, capped_term, no_pair, parts, place_of, plus_pair, sum_of, term_limit, too_large, ◌>>=◌}
pub use Rattle.budget_bounds.specs.declared.pair.TermPair.{TermPair}
pub use Rattle.plan_gains.specs.{branch_gain, branches_of, counts, gain_limit, is_small, listed, net_of, net_or_large, of_drains, of_evaps, of_rivers, source, tighter_of, total_of, well_gain}
unfoldable pub use Rattle.plan_gains.specs.{gains, sources_or_large, sum_or_large, sums_or_large, term_gain}
pub use Rattle.step_problem.specs.{entries_at, lower_at, upper_at, Entries.Entries, declared.entry.Fixed.Fixed, declared.entry.Flow.Flow, declared.place.Dir.TheVariants.In}
pub use Rattle.step_problem.specs.{declared.place.Dir.TheVariants.Out, declared.place.Term.Term, declared.place.Term.TheVariants.ConstantHead, declared.place.Term.TheVariants.Drains}
pub use Rattle.step_problem.specs.{declared.place.Term.TheVariants.Et, declared.place.Term.TheVariants.HeadDepBounds, declared.place.Term.TheVariants.Recharge}
pub use Rattle.step_problem.specs.{declared.place.Term.TheVariants.RiverLeakage, declared.place.Term.TheVariants.Storage, declared.place.Term.TheVariants.Wells}
