-- Names that several proofs of this crate cite, of the crates below and of its own definitions, passed on from one place. Declares nothing.
pub use Rattle.std.proofs.Common.{All, Bool, List, None, Ok, Option, Some, [], ap, arith, cond, false, get_or, inl, inr, length, nat_le, nat_lt, neg_ℤ, negsuc, not, pos, refl, rules, suc, sym, true}
pub use Rattle.std.proofs.Common.{zero, zero-add, ℕ, ℤ, ◌&&◌, ◌*◌, ◌+ℤ◌, ◌+◌, ◌-◌, ◌<◌, ◌==◌, ◌||◌, ◌∙◌, ◌≡◌, ◌≤ℤ◌, ◌≤◌, ◌⊎◌}
pub use Rattle.std.proofs.lemmas.Bool.{and_parts, cases_lt, eqb-true, le-leb, lt-ltb, not-true}
pub use Rattle.std.proofs.lemmas.Nat.{div-add-mod', mod_below}
pub use Rattle.std.specs.Prelude.{if◌then◌else◌}
pub use Rattle.evt_package.specs.{area_in, cell_tested, chosen_cell, column_step, column_tested, evap_fault, evaporation_arrays, in_layer, is_reached, source}
unfoldable pub use Rattle.evt_package.specs.{columns_tested, has_extinction, highest_active}
pub use Rattle.model_types.proofs.Numbering.{layer_below, size_some}
pub use Rattle.model_types.specs.{EvapSource, HasSize, IsEvapValid, cell_count, evap_sources, int_at, is_active, is_chosen, is_highest, is_int, is_nonzero, layer_of, layer_size, no_period, period_at}
pub use Rattle.model_types.specs.{place_in_layer, declared.grid.Grid.Grid, declared.model.FlowModel.FlowModel}
pub use Rattle.number_limits.specs.{is_head, is_positive, within}
pub use Rattle.record_lines.proofs.Loops.{each_step, step_goes_on, steps_done, steps_end}
