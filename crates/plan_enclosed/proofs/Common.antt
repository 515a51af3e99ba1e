-- Names that several proofs of this crate cite, of the crates below and of its own definitions, passed on from one place. Declares nothing.
pub use Rattle.std.proofs.Common.{All, Bool, List, [], ap, arith, cond, drop, false, length, map, mul-pos, neg_ℤ, pos, refl, subst, suc, sym, take, true, zero, ℕ, ℤ, ◌*ℤ◌, ◌*◌, ◌++◌, ◌+ℤ◌, ◌+◌, ◌-ℤ◌}
pub use Rattle.std.proofs.Common.{◌<◌, ◌^◌, ◌∙◌, ◌∷◌, ◌≡◌, ◌≤ℤ◌}
pub use Rattle.std.proofs.{lemmas.Int.clamps, lemmas.Int.ints, lemmas.List.Elements.All-from_get_or, lemmas.List.Elements.All-head, lemmas.List.Elements.All-tail}
pub use Rattle.std.specs.List.{AllZip, filter, flat_map}
pub use Rattle.std.specs.Prelude.{slice_index, slice_index_or, ◌&&◌, ◌==◌}
pub use Rattle.budget_bounds.proofs.Enclosed.{PairEncloses, heads_within}
pub use Rattle.budget_bounds.specs.{AreWithin, all_terms, exact_fixed_of, fixed_of, fixed_term, is_term, declared.pair.TermPair.TermPair}
unfoldable pub use Rattle.budget_bounds.specs.{exact_singles, parts}
pub use Rattle.cell_balance.proofs.Deep.{add_mul, sub_mul, total_neg}
pub use Rattle.cell_balance.proofs.Denominators.{Goes-first, Goes-second, fraction_over, step_common}
pub use Rattle.cell_balance.proofs.Enclosing.{AllZip-filter, AllZip-map, below_encloses, enclosed_over, same_over, total_encloses}
pub use Rattle.cell_balance.proofs.Scaling.{IsOver-minus, IsOver-negated, IsOver-none, IsOver-plus, IsOver-total, max_times, min_times, zero_over}
pub use Rattle.cell_balance.proofs.Zips.{AllZip-at, AllZip-length, WholeCell, WholeEntry, no_whole, whole_at, whole_balance, whole_fixed, whole_link}
pub use Rattle.cell_balance.specs.{AreLinked, CellEncloses, EnclosesStep, ExactCell, ExactFixed, ExactFlow, ExactLink, FixedEncloses, FlowEncloses, LiesBetween, SolvesStep, cell_at, drain_flow}
pub use Rattle.cell_balance.specs.{evap_flow, fixed_flow, link_flow, minus, no_cell, no_link, river_flow, share, sum_below, total_below}
pub use Rattle.decimal_input.proofs.FloorLaws.{Same-sym, cross_trans_signed, last_factors_swap, negated_enclosed}
pub use Rattle.decimal_input.specs.{EnclosesSigned, Fraction, IsOver, Ratio, as_fraction, fraction_total, opposite, Fractions.Same, Fractions.den, Fractions.plus, Fractions.times}
pub use Rattle.plan_difference.proofs.{DifferenceBalance.branch_difference, DifferenceBalance.known_differ, Sames.difference_of_sums, Sames.difference_of_totals, Sames.same_is_over}
pub use Rattle.plan_difference.specs.{AreFlowsApart, AreInOneWeather, DifferenceSolvesIt, IsDifferenceCell, IsDifferenceStep, known_difference, known_differences}
pub use Rattle.plan_enclosed.specs.{AreOneNetwork, AreTwoSolutions, IsSameBranch, SourcesEnclose, ZonesEnclose, is_listed, more_net, sum_by_branches}
pub use Rattle.plan_gains.specs.{branch_gain, by_balance, known, net_of, ramps, source, tighter, well_gain}
unfoldable pub use Rattle.plan_gains.specs.{gains, term_gain}
pub use Rattle.step_problem.specs.{entries_at, no_entries, total, Entries.Entries, declared.entry.FixedKind.FixedKind, declared.place.Term.Term, declared.place.Term.TheVariants.ConstantHead}
pub use Rattle.step_problem.specs.{declared.place.Term.TheVariants.Drains, declared.place.Term.TheVariants.Et, declared.place.Term.TheVariants.HeadDepBounds, declared.place.Term.TheVariants.Recharge}
pub use Rattle.step_problem.specs.{declared.place.Term.TheVariants.RiverLeakage, declared.place.Term.TheVariants.Storage, declared.place.Term.TheVariants.Wells}
