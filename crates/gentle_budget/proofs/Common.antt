-- Names that several proofs of this crate cite, of the crates below and of its own definitions, passed on from one place. Declares nothing.
pub use Rattle.std.proofs.Common.{All, Bool, Err, List, Ok, Result, [], ap, arith, cond, drop, false, get_or, length, map, pos, refl, rules, subst, sym, take, true, ℕ, ℤ, ◌+ℤ◌, ◌+◌, ◌<◌, ◌^◌, ◌∙◌}
pub use Rattle.std.proofs.Common.{◌∷◌, ◌≡◌, ◌≤ℤ◌, ◌≤◌}
pub use Rattle.std.proofs.{lemmas.List.drop_all, lemmas.List.get_or-map, lemmas.List.length-map, lemmas.List.Elements.All-from_get_or, lemmas.List.Elements.All-head, lemmas.List.Elements.All-tail}
pub use Rattle.std.specs.Prelude.{Contains, if◌then◌else◌, ◌&&◌}
pub use Rattle.budget_bounds.specs.{AreHeads, AreWithin, IsSum, bounds_in, capped_term, exact_part, is_small, is_term, no_pair, part, plus_pair, term_limit, too_large, ◌>>=◌}
pub use Rattle.budget_bounds.specs.{declared.pair.Budget.Budget, declared.pair.TermPair.TermPair}
pub use Rattle.cell_relax.specs.{AreWords, heads_on}
pub use Rattle.decimal_input.specs.{EnclosesSigned, Fraction, fraction_total}
pub use Rattle.gentle_budget.specs.{BudgetsHold, budget_at, joined_budget, joined_pair, joined_term, side_budget, side_words, storage_term, stored_or_large, stored_pair}
pub use Rattle.gentle_check.specs.{HaveSide, one_head}
pub use Rattle.gentle_steps.proofs.Cells.{id_is, problem_length, side_cells, variable_place}
pub use Rattle.gentle_terms.specs.{InOrder, stored_term}
pub use Rattle.model_types.specs.{IsModel, cell_count, is_variable, times, variable_cells, declared.model.FlowModel.FlowModel, declared.time_steps.TimeStep.TimeStep}
pub use Rattle.problem_builder.proofs.Members.{variable_active}
pub use Rattle.step_problem.specs.{IsHead, entries_at, lower_at, no_bound, no_entries, total, upper_at, Entries.Entries, declared.heads.Bound.Bound, declared.heads.Side.Side}
pub use Rattle.step_problem.specs.{declared.heads.Side.TheVariants.High, declared.heads.Side.TheVariants.Low, declared.place.Dir.Dir, declared.place.Dir.TheVariants.In}
pub use Rattle.step_problem.specs.{declared.place.Dir.TheVariants.Out, declared.place.NoBound.NoBound, declared.place.Term.Term, declared.place.Term.TheVariants.ConstantHead}
pub use Rattle.step_problem.specs.{declared.place.Term.TheVariants.Drains, declared.place.Term.TheVariants.Et, declared.place.Term.TheVariants.HeadDepBounds, declared.place.Term.TheVariants.Recharge}
pub use Rattle.step_problem.specs.{declared.place.Term.TheVariants.RiverLeakage, declared.place.Term.TheVariants.Storage, declared.place.Term.TheVariants.Wells}
pub use Rattle.water_enclosure.proofs.Linked.{variable_at}
pub use Rattle.water_table.specs.{convertible_step, heads_at, listed_heads, storage_flow, variable_cell, with_yield, declared.convertible_layers.ConvertibleLayers.ConvertibleLayers}
