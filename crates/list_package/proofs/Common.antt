-- Names that several proofs of this crate cite, of the crates below and of its own definitions, passed on from one place. Declares nothing.
pub use Rattle.std.proofs.Common.{All, Bool, IfSome, List, None, Ok, Option, Result, Some, [], add-one, ap, arith, cond, drop, false, get_or, is_some, length, map, nat_le, negsuc, not, pos, refl, set}
pub use Rattle.std.proofs.Common.{subst, suc, sym, take, true, ℕ, ℤ, ◌&&◌, ◌+◌, ◌-◌, ◌<◌, ◌∙◌, ◌∷◌, ◌≡◌, ◌≤◌}
pub use Rattle.std.proofs.lemmas.List.{drop-set-lt, drop_all, get_or-set_other, get_or-set_same, length-replicate, length-set, take_all, take_more_set}
pub use Rattle.std.proofs.lemmas.List.Elements.{All-cons, All-head, All-nil, All-push, All-same, All-tail, All-weaker}
pub use Rattle.std.proofs.lemmas.Result.{err_from_is_err_and}
pub use Rattle.std.specs.List.{AllPairs, AllZip}
pub use Rattle.std.specs.Prelude.{codes, if◌then◌else◌}
pub use Rattle.array_reader.specs.{integer, number, number_at}
pub use Rattle.decimal_input.specs.{IsDec, declared.dec.Dec.Dec}
pub use Rattle.list_package.specs.{Differ, IsEntry, IsListOf, Kind, ListsKeepLimits, column_fault, columns_of, count_of, entries_in, entry_with, first_fault, given_heads, has_parameters, is_left_out}
pub use Rattle.list_package.specs.{is_reused, kind_of, list_of, no_marks, or_later, test_result, with_entries, with_list}
unfoldable pub use Rattle.list_package.specs.{cell_at, entry_at, entry_of, header_of, item_line, list_at, lists_of, new_list, period_at, periods_of}
pub use Rattle.model_types.specs.{HasSize, IsEntryList, IsEntryValid, IsGivenList, IsGivenValid, IsHeadNumber, IsNotNegative, cell_count, most_entries, declared.grid.CellId.CellId}
pub use Rattle.model_types.specs.{declared.grid.Grid.Grid, declared.limits.Limits.Limits, declared.period.Period.Period}
pub use Rattle.outside.specs.{refusal, words, declared.codes.Code.Code, declared.codes.Code.TheVariants.CellOutside, declared.codes.Code.TheVariants.HeadTooLarge}
pub use Rattle.outside.specs.{declared.codes.Code.TheVariants.TooManyEntries, declared.inputs.Refusal.Refusal}
pub use Rattle.record_lines.proofs.Loops.{each_done, each_goes_on, ends_all, ends_text, is_done, stops_all, with_front}
pub use Rattle.record_lines.proofs.Readings.{err_gives_only, gives_only_less, goes_on, if_clear, if_passed, ok_gives_only, repeated_are, repeated_gives, then_}
pub use Rattle.record_lines.specs.{GivesOnly, Left, Numbered, Stops, StopsText, begins_with, left_from, line_at, repeated_reading, without_comments}
unfoldable pub use Rattle.record_lines.specs.{for_each}
