-- Names that several proofs of this crate cite, of the crates below and of its own definitions, passed on from one place. Declares nothing.
pub use Rattle.std.proofs.Common.{Bool, List, [], add-one, ap, arith, cond, drop, drop-cons, false, get_or, length, map, neg_ℤ, pos, refl, subst, suc, sym, true, zero, ℕ, ℤ, ◌++◌, ◌+ℤ◌, ◌+◌, ◌-◌, ◌<◌}
pub use Rattle.std.proofs.Common.{◌∙◌, ◌∷◌, ◌≡◌, ◌≤ℤ◌, ◌≤◌}
pub use Rattle.std.proofs.{lemmas.Int.clamps, lemmas.Int.ints, lemmas.List.append-nil, lemmas.List.drop_all}
pub use Rattle.std.specs.List.{AllZip, filter}
pub use Rattle.budget_bounds.specs.{AreSums, AreWithin, CoverEncloses, EnclosesBudgets, HeadsAreWithin, IsSum, ReachesAsFar, all_terms, bounds_in, capped_term, entry_pair, exact_part, fixed_of}
pub use Rattle.budget_bounds.specs.{fixed_term, flow_pair, flow_term, flows_of, is_small, is_term, no_pair, part, place_of, plus_pair, sum_of, term_limit, too_large, ◌>>=◌}
unfoldable pub use Rattle.budget_bounds.specs.{budget_of, exact_singles, exact_term, parts, singles, term_of, term_or_refusal, term_pair, terms_of, tested_budget, tested_terms}
pub use Rattle.budget_bounds.specs.declared.pair.TermPair.{TermPair}
pub use Rattle.cell_balance.specs.{CellEncloses, DrainEncloses, EnclosesStep, EvapEncloses, ExactCell, ExactFixed, ExactFlow, FixedEncloses, FlowEncloses, RiverEncloses, cell_at, drain_flow}
pub use Rattle.cell_balance.specs.{evap_flow, fixed_flow, no_cell, river_flow, sum_below, total_below}
pub use Rattle.step_problem.specs.{entries_at, lower_at, no_entries, upper_at, Entries.Entries, declared.entry.Fixed.Fixed, declared.entry.FixedKind.FixedKind, declared.entry.Flow.Flow}
pub use Rattle.step_problem.specs.{declared.entry.FlowKind.FlowKind, declared.place.Dir.Dir, declared.place.Dir.TheVariants.In, declared.place.Dir.TheVariants.Out, declared.place.Term.Term}
pub use Rattle.step_problem.specs.{declared.place.Term.TheVariants.ConstantHead, declared.place.Term.TheVariants.Drains, declared.place.Term.TheVariants.Et}
pub use Rattle.step_problem.specs.{declared.place.Term.TheVariants.HeadDepBounds, declared.place.Term.TheVariants.Recharge, declared.place.Term.TheVariants.RiverLeakage}
pub use Rattle.step_problem.specs.{declared.place.Term.TheVariants.Storage, declared.place.Term.TheVariants.Wells}
