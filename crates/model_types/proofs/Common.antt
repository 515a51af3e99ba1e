-- Names that several proofs of this crate cite, of the crates below and of its own definitions, passed on from one place. Declares nothing.
pub use Rattle.std.proofs.Common.{All, Bool, List, None, Option, Some, [], add-one, ap, arith, cond, false, get_or, inl, inr, is_some, length, map, pos, refl, set, subst, suc, sym, take, true, zero}
pub use Rattle.std.proofs.Common.{ℕ, ℤ, ◌%◌, ◌*◌, ◌++◌, ◌+◌, ◌-◌, ◌/◌, ◌<◌, ◌||◌, ◌∙◌, ◌∷◌, ◌≡◌, ◌≤◌, ◌⊎◌}
pub use Rattle.std.proofs.Math.Nat.{add-sub_cancel_left, mod-le, mul-le-mul_right, mul-pos}
pub use Rattle.std.proofs.lemmas.Bool.{cases_Bool, cases_eq, cases_lt, cases_order, cond-false, cond-true, eq-eqb, le-leb, leb-false, leb-true, ne_eqb}
pub use Rattle.std.proofs.lemmas.List.{append-nil, append_assoc, flat_map_more, get_or-replicate, get_or-set_other, get_or_read, length-append, length-replicate, length-set, reverse-append}
pub use Rattle.std.proofs.lemmas.List.{set-append_right, take_all, take_more}
pub use Rattle.std.proofs.lemmas.List.Elements.{All-cons, All-contains, All-get_or, All-nil, filter-append}
pub use Rattle.std.proofs.lemmas.List.FromFn.{fill_by_all, get_or-map-range_with_len, length-map-range_with_len, map-range_with_len_more}
pub use Rattle.std.proofs.lemmas.Nat.{div-add-mod', div-mul-add, div_below, mod-mul-add, mod_below, mul-add-lt}
pub use Rattle.std.specs.List.{Contains, cons_option, filter, filter_map, find, flat_map, list_any, range_with_len, sum_by}
pub use Rattle.std.specs.Prelude.{min, nat_le, nat_lt, replicate, reverse, ◌==◌}
pub use Rattle.model_types.specs.{AreStresses, HasSize, IsEntryList, IsEntryValid, IsGivenList, IsGivenValid, IsInGrid, IsPlace, back, cell_count, cell_number, column_of, down, face_after}
pub use Rattle.model_types.specs.{face_before, faces, front, has_after, has_before, is_int, kind_of, last_given, layer_of, layer_size, left, most_cells, most_entries, most_in_row, most_layers}
pub use Rattle.model_types.specs.{no_number, no_period, no_stresses, one, period_at, place, right, row_of, span, steps_of, stride, through, up, declared.face.Axis.TheVariants.Column}
pub use Rattle.model_types.specs.{declared.face.Axis.TheVariants.Row, declared.face.Axis.TheVariants.Vertical, declared.face.Face.Face, declared.grid.Grid.Grid, declared.model.FlowModel.FlowModel}
pub use Rattle.model_types.specs.{declared.period.Period.Period}
unfoldable pub use Rattle.model_types.specs.{geometric, given_heads, given_in, kinds, power}
