-- Names that several proofs of this crate cite, of the crates below and of its own definitions, passed on from one place. Declares nothing.
pub use Rattle.std.proofs.Common.{All, Bool, Err, List, None, Ok, Option, Result, Some, [], add-one, ap, arith, codes, cond, decimal, drop, drop-cons, false, get_or, inl, inr, length, map, nat_abs}
pub use Rattle.std.proofs.Common.{nat_le, negsuc, not, option_map, pos, pow-suc, refl, replicate, rules, slice_index_or, subst, suc, sym, take, true, zero, ℕ, ℤ, ◌%◌, ◌&&◌, ◌*◌, ◌++◌, ◌+◌, ◌-◌, ◌/◌}
pub use Rattle.std.proofs.Common.{◌<◌, ◌==◌, ◌^◌, ◌||◌, ◌∙◌, ◌∷◌, ◌≡◌, ◌≤◌, ◌⊎◌}
pub use Rattle.std.proofs.{lemmas.Bool.Decides.nat_tests, lemmas.Fmt.decimal_is_IsNumeral_wide, lemmas.Fmt.length-decimal-le_wide, lemmas.List.append-nil, lemmas.List.append_assoc}
pub use Rattle.std.proofs.{lemmas.List.drop_all, lemmas.List.drop_at, lemmas.List.take_at, lemmas.List.Concat.flat_map-append, lemmas.List.Concat.flat_map-cons}
pub use Rattle.std.proofs.{lemmas.List.Elements.All-from_recursion, lemmas.List.Elements.recursion_from_All, lemmas.Result.err_from_is_err_and, lemmas.Slice.Eq.bytes_eq-Decides}
pub use Rattle.std.specs.{List.AllByRecursion, List.AllZip, List.flat_map, List.list_all, List.position_or_len, List.range_with_len, Str.bytes_eq, Str.Parse.AllDigits, Str.Parse.digits_value_after}
pub use Rattle.budget_bounds.specs.{all_terms, no_pair, place_of, declared.pair.Budget.Budget, declared.pair.TermPair.TermPair}
pub use Rattle.cell_balance.proofs.Zips.{AllZip-length, AllZip-right}
pub use Rattle.decimal_input.proofs.Powers.{ten_pos}
pub use Rattle.fixed_text.specs.{fixed_text, padded_digits, sign}
pub use Rattle.listing_io.specs.{AreFlows, AreListed, AreTerms, AreZonePairs, ConvertibleListingsAreApart, ConvertibleListingsAreReadAgain, ConvertibleListingsWereWritten, Form, Has, HasDigits}
pub use Rattle.listing_io.specs.{IsCellBound, IsFlowPair, IsForm, IsListedAt, IsListedStep, IsListing, IsPairIf, IsPairLine, IsTime, IsWritable, Left, Line, LinesReadExactly, ListingsAreApart}
pub use Rattle.listing_io.specs.{ListingsAreReadAgain, ListingsWereWritten, Stops, after_word, all_lines, bound_of, cell_front, cell_line, cell_word, convertible_first_line, digits_line, dir_front}
pub use Rattle.listing_io.specs.{each_lines, end_line, ended_line, first_line, first_line_before, first_of, first_word, flow_form, flow_of, form_of, has_evt, head_form, head_front, head_if, head_line}
pub use Rattle.listing_io.specs.{head_pair, is_first, is_negative, is_printed, is_within, line_at, none_of, numbers_text, or_refused, over_at, pair_if, pair_line, printed_terms, step_at, step_line}
pub use Rattle.listing_io.specs.{steps_to_end, term_form, term_if, term_line, text_of, titled_line, value_of, with_byte, zone_front, zone_line, zone_pair, declared.fault.Fault.Fault}
pub use Rattle.listing_io.specs.{declared.fault.Fault.TheVariants.BadLine, declared.fault.Fault.TheVariants.Memory, declared.listing.ListedStep.ListedStep, declared.pair_lines.CellWord.CellWord}
pub use Rattle.listing_io.specs.{declared.pair_lines.CellWord.TheVariants.Head}
unfoldable pub use Rattle.listing_io.specs.{all_step_lines, candidate, digits_behind, first_at, flow_at, head_lines, heads_at, listing, listing_at, pair_at, pair_in, step_lines, step_text, step_with}
unfoldable pub use Rattle.listing_io.specs.{term_lines, terms_at, text_at, variable_lines}
pub use Rattle.model_types.specs.{cell_count, is_active, most_cells, period_at, place, steps_of, declared.model.FlowModel.FlowModel, declared.time_steps.TimeStep.TimeStep}
unfoldable pub use Rattle.model_types.specs.{times}
unfoldable pub use Rattle.outside.specs.{lines}
pub use Rattle.record_lines.proofs.Loops.{each_done, each_goes_on, with_front}
pub use Rattle.record_lines.specs.{next_number, ◌>>=◌}
unfoldable pub use Rattle.record_lines.specs.{for_each}
pub use Rattle.step_problem.specs.{IsHead, entries_at, head_limit, no_bound, no_entries, term_name, declared.heads.Bound.Bound, declared.place.Dir.Dir, declared.place.Dir.TheVariants.In}
pub use Rattle.step_problem.specs.{declared.place.Dir.TheVariants.Out, declared.place.Term.Term, declared.place.Term.TheVariants.ConstantHead, declared.place.Term.TheVariants.Drains}
pub use Rattle.step_problem.specs.{declared.place.Term.TheVariants.Et, declared.place.Term.TheVariants.HeadDepBounds, declared.place.Term.TheVariants.Recharge}
pub use Rattle.step_problem.specs.{declared.place.Term.TheVariants.RiverLeakage, declared.place.Term.TheVariants.Storage, declared.place.Term.TheVariants.Wells, declared.place.ZoneFlow.ZoneFlow}
pub use Rattle.zone_pairs.specs.{ArePairs, pairs_in, zones_of, zones_of_flow, declared.pair.ZonePair.ZonePair}
