-- Names that several proofs of this crate cite, of the crates below and of its own definitions, passed on from one place. Declares nothing.
pub use Rattle.std.proofs.Common.{All, Bool, Contains, Err, List, None, Ok, Option, Some, [], ap, arith, cond, drop, false, get_or, inl, inr, length, map, nat_abs, negsuc, option_map, pos, refl}
pub use Rattle.std.proofs.Common.{subst, suc, sym, take, true, unsigned_abs, zero, ℕ, ℤ, ◌++◌, ◌+ℤ◌, ◌+◌, ◌<ℤ◌, ◌<◌, ◌==◌, ◌^◌, ◌∙◌, ◌∷◌, ◌≡◌, ◌≢◌, ◌≤ℤ◌, ◌≤◌, ◌⊎◌}
pub use Rattle.std.proofs.{lemmas.Bool.and_from, lemmas.Bool.and_parts, lemmas.Bool.cases_Bool, lemmas.Bool.cases_order, lemmas.Bool.eqb-true, lemmas.Bool.leb-true, lemmas.Bool.lt-ltb}
pub use Rattle.std.proofs.{lemmas.Bool.Decides.nat_tests, lemmas.Int.clamps, lemmas.Int.ints, lemmas.List.append-nil, lemmas.List.append_assoc, lemmas.List.drop_all, lemmas.List.drop_more}
pub use Rattle.std.proofs.{lemmas.List.get_or-map, lemmas.List.get_or_default, lemmas.List.length-map, lemmas.List.Elements.All-contains_itself, lemmas.List.Elements.All-head}
pub use Rattle.std.proofs.{lemmas.List.Elements.All-tail, lemmas.List.Elements.All-weaker, lemmas.Result.IfErr-weaker, lemmas.Result.IfOk-weaker, lemmas.Result.err_from_is_err_and}
pub use Rattle.std.specs.List.{AllZip, concat, filter_map, flat_map}
pub use Rattle.std.specs.Prelude.{IfSome, filter, if◌then◌else◌, nat_lt, slice_index}
pub use Rattle.barrier_vector.specs.{BarrierExcludesRefusal, CutBarrierExcludesRefusal, CutBarrierIsOne, CutRefusalIsOne, clamped_edges}
pub use Rattle.budget_bounds.specs.{CoverEncloses, Covers, EnclosesBudgets, HeadsAreWithin, IsFirstUncovered, all_terms, is_small, line_of, no_pair, term_limit, too_large, declared.pair.Budget.Budget}
pub use Rattle.budget_bounds.specs.{declared.pair.TermPair.TermPair}
unfoldable pub use Rattle.budget_bounds.specs.{budget_of, parts, singles, term_of, term_pair, terms_of}
pub use Rattle.cell_balance.proofs.Zips.{AllZip-at, AllZip-length}
pub use Rattle.cell_balance.specs.{EnclosesSolutions, ExactCell, sum_below}
pub use Rattle.cell_relax.specs.{AreWords}
pub use Rattle.certificate_check.specs.{HoldsAt, IsFirstFailing}
pub use Rattle.check_run.specs.{AllReach, AreChecked, AreNarrow, ArePosed, AreWide, CellFails, Checks, ConstantsReach, CoversFlow, FailAt, FailsAt, FailsBy, HeadsFailBy, HeadsHold, IsConstantCell}
pub use Rattle.check_run.specs.{IsCovered, IsFirstNarrow, IsFirstShort, IsFirstUnreached, IsReadable, IsRefused, IsUncovered, IsUnposed, IsVerdict, IsVerdictAt, ListingEncloses, Passes, ReachesAt}
pub use Rattle.check_run.specs.{ReachesOn, RunIsCertified, RunIsReadAgain, StopsAt, TermsHold, VerdictIsOne, as_listed, at_constant, at_term, at_variable, at_zones, bounds, checked_task, failing}
pub use Rattle.check_run.specs.{heads_before, no_budget, no_flows, no_heads, of_bound, short, step_of, steps_of, variable_bounds, declared.listing.CheckFault.CheckFault, declared.posed.Posed.Posed}
pub use Rattle.check_run.specs.{declared.verdict.ListingVerdict.ListingVerdict, declared.verdict.ListingVerdict.TheVariants.Certified, declared.verdict.ListingVerdict.TheVariants.Fails}
pub use Rattle.check_run.specs.{declared.verdict.ListingVerdict.TheVariants.Refused}
pub use Rattle.decimal_input.specs.{EnclosesSigned, Fraction}
pub use Rattle.deck_problems.proofs.OneProblem.{chosen_cells, hull_parts}
pub use Rattle.deck_problems.specs.{AreConstantHeadsFor, AreDeckTables, AreDecks, AreStartHeadsFor, ConstantPairEncloses, ConstantPairIsOne, EnclosesChoices, EnclosesStarts, IsBefore, IsChoiceOf}
pub use Rattle.deck_problems.specs.{IsProblemBy, IsProblemFor, IsSecond, IsStartOf, ProblemFits, StartHeadsAreOne, StartHeadsFit, digits_of, declared.decks.Decks.Decks}
pub use Rattle.deck_span.specs.{Choice, step_from}
pub use Rattle.exact_histories.specs.{HaveOneBy, HaveOneHistory}
pub use Rattle.flow_equations.proofs.Links.{below_is, index_is}
pub use Rattle.flow_equations.specs.{exact_step, heads_of, variable_heads}
pub use Rattle.listing_io.specs.{AreCellBounds, AreFlows, AreListed, IsCellBound, IsFlowPair, IsListedAt, IsListedStep, IsPairIf, IsTime, IsWritable, ListingsAreReadAgain, all_lines, ended_line}
pub use Rattle.listing_io.specs.{first_line, has_evt, is_printed, listing_at, step_in, step_lines, zone_pair, declared.listing.ListedStep.ListedStep}
unfoldable pub use Rattle.listing_io.specs.{all_step_lines, first_text, step_text}
pub use Rattle.listing_run.proofs.HistoriesBound.{AllBoundMoves, histories_bound}
pub use Rattle.listing_run.proofs.Unique.{IsRest, large_one, none_large, ok_not_err, one_err, one_ok, rest_more, rest_whole, same_flows}
pub use Rattle.listing_run.specs.{AllSteps, AreFlowsAt, AreFlowsOf, BoundAll, BoundChoices, Bounds, BoundsMoves, BoundsMovesOf, EnclosesHistories, HasLargeFlowOf, HistoriesBound, IsStep, Steps}
pub use Rattle.listing_run.specs.{budget_at, deck_task, faces_of, listing, pairs_of, text_of, declared.solving.Step.Step, declared.steps.Task.Task, declared.text.ListingEnd.TheVariants.Whole}
pub use Rattle.model_types.proofs.Ranks.{IsAt, at_rank, is_at, passing}
pub use Rattle.model_types.specs.{FixedSource, FromStorage, HasSize, IsModel, ToConstant, ToGeneral, as_general, cell_count, constant_faces, evap_sources, fixed_sources, index_of, is_active}
pub use Rattle.model_types.specs.{is_chosen, is_constant, is_nonzero, is_variable, kind_of, local_entries, start_head, storage_at, times, variable_cells, variable_faces, declared.limits.Limits.Limits}
pub use Rattle.model_types.specs.{declared.model.FlowModel.FlowModel, declared.time_steps.TimeStep.TimeStep}
pub use Rattle.problem_builder.proofs.{KindsOf.constant_kind, KindsOf.variable_kind, Steps.cells_of, Steps.same_problem, TimesOf.flat-In, TimesOf.time_of, Zipped.left_of, Zipped.right_of}
pub use Rattle.problem_builder.proofs.{Zipped.zip_image}
pub use Rattle.problem_builder.specs.{AreGridHeads, HeadsEnclose, IsActive, IsCellNamed, IsProblemOf, bound_at, whole_cell, whole_evap, whole_fixed, whole_link}
pub use Rattle.problem_hull.specs.{cell_hull, cell_shape, evap_hull, fixed_hull, fixed_shape, zip_with}
pub use Rattle.step_chain.proofs.{Assembled.IsPartly, Assembled.active_constant, Assembled.all_filled, Assembled.constant_not_variable, Assembled.index_below, Assembled.kind_variable}
pub use Rattle.step_chain.proofs.{Assembled.partly_other, Assembled.partly_variable, Histories.first_in, Histories.lies_encloses, Limits.cut_by, OneStep.follows, OneStep.pair_words}
pub use Rattle.step_chain.proofs.{OneStep.same_bound, OneStep.same_bounds, Refusals.posed_excludes, Refusals.poses_one}
pub use Rattle.step_chain.specs.{AreHeadsOf, EnclosesMoves, HasNoPose, HeadsFit, IsBarrierBy, IsBarrierFault, IsPosed, IsStepBy, edges_by, declared.solved.Solved.Solved}
pub use Rattle.step_problem.specs.{Edges, IsCertificate, IsHead, IsProblem, PairKind, entries_at, lower_at, no_bound, no_entries, total, upper_at, Entries.Entries, declared.heads.Bound.Bound}
pub use Rattle.step_problem.specs.{declared.heads.Side.Side, declared.heads.Side.TheVariants.High, declared.heads.Side.TheVariants.Low, declared.place.Dir.Dir, declared.place.Dir.TheVariants.In}
pub use Rattle.step_problem.specs.{declared.place.Dir.TheVariants.Out, declared.place.NoBound.NoBound, declared.place.Term.Term, declared.place.ZoneFlow.ZoneFlow}
pub use Rattle.zone_flows.proofs.ListedFlows.{IsZoneFlow, flows_of_pairs}
pub use Rattle.zone_flows.specs.{EncloseExact, Face, exact_faces, exact_flow, face_between, faces_by_kind, fixed_faces, flows_between, is_between, is_lower_zone, link_faces, share}
unfoldable pub use Rattle.zone_flows.specs.{cell_faces, face_from, faces}
pub use Rattle.zone_pairs.proofs.Joined.{any_in, face_of, in_any, join_of, pairs_small, shares}
pub use Rattle.zone_pairs.specs.{AreNumbers, joins, pairs_below, pairs_in, share_face, zones_of_flow, declared.pair.ZonePair.ZonePair}
unfoldable pub use Rattle.zone_pairs.specs.{zone_pairs}
