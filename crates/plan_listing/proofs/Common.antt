-- Names that several proofs of this crate cite, of the crates below and of its own definitions, passed on from one place. Declares nothing.
pub use Rattle.std.proofs.Common.{All, Bool, List, Ok, Option, Result, [], ap, arith, codes, cond, drop, false, get_or, inl, inr, length, map, option_map, refl, rules, slice_index_or, subst, sym}
pub use Rattle.std.proofs.Common.{true, ℕ, ◌++◌, ◌+◌, ◌-◌, ◌<◌, ◌∙◌, ◌∷◌, ◌≡◌, ◌≤◌}
pub use Rattle.std.proofs.{lemmas.List.append_assoc, lemmas.List.drop_all, lemmas.Result.err_from_is_err_and}
pub use Rattle.std.specs.List.{AllByRecursion, AllZip, flat_map, range_with_len}
pub use Rattle.budget_bounds.specs.{all_terms, no_pair, place_of}
pub use Rattle.cell_balance.proofs.Zips.{AllZip-length}
pub use Rattle.listing_io.proofs.{Readers.cell_read, Readers.flows_read, Readers.term_read, Readers.text_again, Readers.text_row, Rows.end_stops, Rows.over_stops, Rows.steps_stop, Rows.whole_was}
pub use Rattle.listing_io.proofs.{Steps.are_flows, Steps.flow_lines, Steps.flows_of, Steps.listings_were_written, Terms.IsReader, Terms.all_read, Terms.bind_goes_through, Terms.left_of, Terms.same_ok}
pub use Rattle.listing_io.proofs.{Walks.all_written, Walks.cells_next, Walks.each_stops, Walks.line_if, Walks.lines_written, Walks.next_of, Walks.no_cells, Walks.not_without, Walks.one_deck_apart}
pub use Rattle.listing_io.proofs.{Walks.same_first}
pub use Rattle.listing_io.specs.{AreZonePairs, Has, IsCellBound, IsListing, IsPairIf, IsTime, IsWritable, Left, Line, Stops, all_lines, cell_front, each_lines, end_line, ended_line, first_line}
pub use Rattle.listing_io.specs.{first_line_before, has_evt, head_if, pair_if, source_front, source_line, step_line, term_form, text_of, zone_line}
pub use Rattle.listing_io.specs.declared.pair_lines.CellWord.TheVariants.{Base, Drawdown, Plan}
pub use Rattle.model_types.specs.{cell_count, is_active, most_cells, declared.model.FlowModel.FlowModel, declared.time_steps.TimeStep.TimeStep}
pub use Rattle.plan_listing.specs.{AreBoundsOf, AreListedPlan, AreSources, IsListedPlanStep, PlanListingsAreApart, PlanListingsAreNoListings, PlanListingsAreReadAgain, PlanListingsWereWritten}
pub use Rattle.plan_listing.specs.{is_source, line_of, plan_cell_lines, plan_cells, plan_first_line, plan_step_at, plan_step_of, source_terms, declared.listing.ListedPlanStep.ListedPlanStep}
pub use Rattle.plan_listing.specs.{declared.listing.PlanCell.PlanCell}
pub use Rattle.plan_sources.specs.declared.flows.Sources.{Sources}
pub use Rattle.record_lines.proofs.Loops.{each_done, each_goes_on, with_front}
pub use Rattle.step_problem.specs.{declared.heads.Bound.Bound, declared.place.Term.Term}
pub use Rattle.zone_pairs.specs.{ArePairs, pairs_in, zones_of, declared.pair.ZonePair.ZonePair}
