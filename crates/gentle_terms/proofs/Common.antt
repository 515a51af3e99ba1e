-- Names that several proofs of this crate cite, of the crates below and of its own definitions, passed on from one place. Declares nothing.
pub use Rattle.std.proofs.Common.{All, Bool, List, [], ap, arith, cond, false, length, map, pos, refl, subst, suc, sym, true, zero, ℕ, ℤ, ◌++◌, ◌<◌, ◌∙◌, ◌∷◌, ◌≡◌}
pub use Rattle.budget_bounds.specs.{exact_fixed_of, exact_part, is_term}
pub use Rattle.cell_balance.specs.{ExactCell, ExactFixed, cell_at, drain_flow, evap_flow, fixed_flow, river_flow, total_below}
pub use Rattle.decimal_input.specs.{Fraction, fraction_total, opposite, whole}
pub use Rattle.gentle_terms.specs.{HistoryTermsLieBetween, InOrder, TermsAreInOrder, TermsLieFrom, stored_term}
pub use Rattle.model_types.specs.{FixedSource, IsModel, ToGeneral, as_general, constant_faces, local_entries, start_head, times, variable_cells, declared.model.FlowModel.FlowModel}
pub use Rattle.model_types.specs.{declared.time_steps.TimeStep.TimeStep}
pub use Rattle.step_problem.specs.declared.place.Dir.{Dir}
pub use Rattle.step_problem.specs.declared.place.Term.{Term}
pub use Rattle.step_problem.specs.declared.place.Term.TheVariants.{ConstantHead, Drains, Et, HeadDepBounds, Recharge, RiverLeakage, Storage, Wells}
pub use Rattle.water_enclosure.specs.{FlowsLieFrom, OwnFlowsAreAtMost}
pub use Rattle.water_table.specs.{ListedPair, constant_branch, convertible_cell, convertible_step, general_branches, heads_at, listed_heads, storage_flow, variable_cell}
pub use Rattle.water_table.specs.declared.convertible_layers.ConvertibleLayers.{ConvertibleLayers}
