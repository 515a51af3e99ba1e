-- Names that several proofs of this crate cite, of the crates below and of its own definitions, passed on from one place. Declares nothing.
pub use Rattle.std.proofs.Common.{All, Bool, List, None, Ok, Option, Some, [], ap, arith, codes, false, inl, inr, length, nat_le, nat_lt, negsuc, not, pos, refl, replicate, rules, subst, suc, sum_by}
pub use Rattle.std.proofs.Common.{sym, true, ℕ, ℤ, ◌&&◌, ◌*◌, ◌++◌, ◌+◌, ◌-◌, ◌<◌, ◌==◌, ◌||◌, ◌∙◌, ◌∷◌, ◌≡◌, ◌≤◌, ◌⊎◌}
pub use Rattle.std.proofs.{lemmas.Bool.and_parts, lemmas.Bool.eqb-true, lemmas.Bool.leb-true, lemmas.Bool.ltb-true, lemmas.Bool.not-false, lemmas.Bool.not-true, lemmas.List.Elements.All-append}
pub use Rattle.std.proofs.{lemmas.List.Elements.All-cons, lemmas.List.Elements.All-nil, lemmas.List.Elements.All-push, lemmas.List.Elements.All-weaker, lemmas.Result.err_from_is_err_and}
pub use Rattle.std.specs.Prelude.{if◌then◌else◌}
pub use Rattle.array_reader.specs.{integer, number, number_at, real, value_alone, value_at}
unfoldable pub use Rattle.array_reader.specs.{zero_at}
pub use Rattle.array_text.proofs.{ArrayForms.array_is, ArrayForms.item_is, ArrayForms.value_is, NumberForms.integer_is, NumberForms.multiplied_is, NumberForms.number_is}
pub use Rattle.array_text.specs.{IsShort}
pub use Rattle.decimal_input.specs.{IsDec, size}
pub use Rattle.dis_package.specs.{IsBegun, IsFrame, IsGridWithin, IsNewPeriod, IsOfBeds, IsSize, IsTime, inside, is_growth, is_time, kind_of, kind_or_refusal, model_of_grid, period_of}
pub use Rattle.dis_package.specs.{declared.frame.Frame.Frame, declared.frame.Size.Size}
unfoldable pub use Rattle.dis_package.specs.{beds_of, bottom_at, bottoms_of, count_at, dis_of, frame_of, grid_of, head_of, period_at, periods_of, size_at, time_of, widths}
pub use Rattle.model_types.specs.{IsGrid, IsGrowing, IsPositive, IsTimed, int_at, is_nonzero, most_cells, most_in_row, most_layers, no_number, number_one, declared.grid.Grid.Grid}
pub use Rattle.model_types.specs.{declared.limits.Limits.Limits, declared.model.FlowModel.FlowModel, declared.period.Period.Period}
pub use Rattle.number_limits.proofs.SignLemmas.{all_positive_of, one_of, positive_of}
pub use Rattle.number_limits.specs.{is_at_least, is_at_most, is_one, is_positive, within}
pub use Rattle.outside.specs.{FileSet, input_fault, refusal, words, declared.codes.Code.TheVariants.BadGrid}
pub use Rattle.record_lines.proofs.Forward.{begun_held, line_held, rest_has_its_lines}
pub use Rattle.record_lines.proofs.Loops.{ends_all, ends_text, is_done, step_goes_on, steps_done, steps_stop, with_front}
pub use Rattle.record_lines.proofs.Readings.{counted_gives, err_gives_only, gives_only_less, goes_on, if_clear, if_passed, ok_gives_only, repeated_are, repeated_gives, repeated_held, some_give, then_}
pub use Rattle.record_lines.specs.{GivesOnly, Left, LineMay, LinesMay, Numbered, Stops, StopsText, Taking, beginning, each_number, is_word, left_from, line_at, repeated_reading, without_comments}
