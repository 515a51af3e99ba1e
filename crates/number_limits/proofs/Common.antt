-- Names that several proofs of this crate cite, of the crates below and of its own definitions, passed on from one place. Declares nothing.
pub use Rattle.std.proofs.Common.{All, Bool, IsTrue, List, None, Ok, Option, Some, arith, cond, false, inl, inr, length, nat_le, nat_lt, neg_ℤ, negsuc, pos, refl, subst, sym, true, ℕ, ℤ, ◌&&◌, ◌*◌}
pub use Rattle.std.proofs.Common.{◌+◌, ◌-◌, ◌<◌, ◌==◌, ◌^◌, ◌↔◌, ◌∙◌, ◌≡◌, ◌≤◌, ◌⊎◌}
pub use Rattle.std.proofs.{lemmas.Bool.and_parts, lemmas.Bool.cases_lt, lemmas.Bool.eqb-true, lemmas.Bool.le-leb, lemmas.Bool.leb-true, lemmas.Bool.ltb-true, lemmas.Bool.not-true, lemmas.Int.ints}
pub use Rattle.std.specs.Prelude.{if◌then◌else◌, not, unsigned_abs, ◌||◌}
pub use Rattle.decimal_input.specs.{EnclosesSigned, IsCeiling, IsDec, IsFloor, Passes, Ratio, Reaches, ceiling, floor, size, with_sign, Ratios.AtMost, Ratios.den, declared.dec.Dec.Dec}
unfoldable pub use Rattle.decimal_input.specs.{ratio}
pub use Rattle.model_types.specs.{IsGrid, IsHeadNumber, IsPositive, IsThick, bottom_at, cell_count, dec_at, has_bed, is_active, layer_size, lowest, no_number, number_one, top_at}
pub use Rattle.model_types.specs.declared.model.FlowModel.{FlowModel}
pub use Rattle.number_limits.specs.{at_cell, cell_step, code_of, has_room, is_head, is_one, is_positive, is_same_number, passes}
unfoldable pub use Rattle.number_limits.specs.{check_result, fault_at, is_at_least, is_at_most, is_thick}
pub use Rattle.record_lines.proofs.Loops.{each_step, step_goes_on, steps_done, steps_end}
