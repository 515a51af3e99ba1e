-- Names that several proofs of this crate cite, of the crates below and of its own definitions, passed on from one place. Declares nothing.
pub use Rattle.std.proofs.Common.{Bool, Err, IfOk, IfSome, IsErrAnd, List, None, Ok, Option, Result, Some, [], ap, arith, codes, cond, get_or, if◌then◌else◌, inl, inr, length, length-append, map}
pub use Rattle.std.proofs.Common.{option_map, refl, rules, subst, sym, take, true, unsigned_abs, ℕ, ℤ, ◌*◌, ◌++◌, ◌+◌, ◌<◌, ◌∙◌, ◌∷◌, ◌≡◌, ◌≢◌, ◌≤◌, ◌⊎◌}
pub use Rattle.std.proofs.lemmas.List.{append-nil, append_assoc, length-map, map-append, take_more}
pub use Rattle.std.proofs.lemmas.List.Elements.{All-append, All-cons, All-head, All-nil, All-push, All-tail, All-weaker}
pub use Rattle.std.proofs.lemmas.Result.{IfOk-at_ok, IfOk-weaker, err_from_is_err_and}
pub use Rattle.std.specs.{Io.KnownBytes.Appends, List.AllZip, List.concat, List.filter, List.onto_first, declared.alloc.Global.Global, declared.vec.Vec.Vec}
pub use Rattle.std.specs.Prelude.{All, IfErr, false, is_some, nat_abs, option_to_list, slice_get, unwrap_or, ◌-◌, ◌==◌, ◌^◌}
pub use Rattle.check_run.proofs.FlowPairs.{flows_have_pairs, run_encloses}
pub use Rattle.check_run.specs.{IsReadable, IsVerdict, ListingEncloses, RunIsCertified, RunIsReadAgain, VerdictIsOne, as_listed, checked_task, steps_of, declared.verdict.ListingVerdict.ListingVerdict}
pub use Rattle.check_run.specs.{declared.verdict.ListingVerdict.TheVariants.Certified, declared.verdict.ListingVerdict.TheVariants.Fails}
pub use Rattle.command_line.proofs.DigitLemmas.{check_digits, text_digits}
pub use Rattle.command_line.specs.{AskedBatch, AskedCheck, AskedPlan, AskedText, Batch, Check, CheckConvertible, CheckPlan, CheckText, ListingOrder, Make, Plan, Run, Wanted, Words, Write, asked_of}
pub use Rattle.command_line.specs.{asked_text, batch_of, check_of, order_of_words, plan_asked, text_if, usage_line, wanted_by, declared.order.Order.Order, declared.order.WordsFault.WordsFault}
pub use Rattle.convertible_reader.specs.{convertible_reads}
pub use Rattle.deck_problems.proofs.OneProblem.{one_valid}
pub use Rattle.deck_problems.specs.{AreDecks, IsSecond, one_deck, declared.decks.Decks.Decks}
pub use Rattle.deck_span.specs.{AreAlike, Choice, DifferenceIsOne, IsFirstDifference, step_from, declared.difference.Difference.Difference}
pub use Rattle.engine.specs.{After, Answers, AnswersBeside, AreDecksAs, AreDecksOf, AreItsSteps, ArePairOf, ArePutInTurn, AreReadAs, AreTasks, AreText, AreViews, AreWatched, ByDeck, Case, Checking}
pub use Rattle.engine.specs.{ChecksText, ChecksWritten, Comparing, ConvertibleChecking, ConvertibleVerdict, CutOf, DeckAndListingAreStated, DeckHasSameListing, DecksAndListingAreStated, Defines, Due}
pub use Rattle.engine.specs.{EndIsDefined, EndsOk, FolderUse, GoesThrough, GoesWell, HasEnded, HasGentleHistories, HasNoList, HeadlineOf, IsAsked, IsCheck, IsConvertibleCheck, IsDecksRefusal, IsDue}
pub use Rattle.engine.specs.{IsFaultOf, IsFirstIf, IsFirstPut, IsJobEnd, IsJobListing, IsListed, IsListingOf, IsMade, IsNoSecond, IsOrder, IsPlain, IsPlanCheck, IsReadableText, IsReadingEnd}
pub use Rattle.engine.specs.{IsRefusedBy, IsRunOf, IsRunResult, IsRunText, IsSaid, IsStopNumber, IsStopped, IsTaskRead, IsValid, IsValidJob, IsView, IsWatched, JobDefines, Jobs, Listing, ListsPairs}
pub use Rattle.engine.specs.{Making, MayRead, NoWords, OneDeck, OneDeckListing, OneDeckSpan, OneOf, OnePlan, OneSpan, OneSpanTextIsCertified, OneSummary, OneTextIsCertified, OneTextVerdict}
pub use Rattle.engine.specs.{OneVerdict, PlanChecking, PlanGoesThrough, PlanVerdict, Planning, ReadsFolder, ReadsNothing, Refuses, RunHeadline, RunSpanHeadline, SameDeckHasSameModel}
pub use Rattle.engine.specs.{SameModelHasSameListing, Saying, Second, Serves, Shows, SidePuts, SinkUse, SpanStated, SpanVerdict, StorageHolds, ViewsPut, Writing, WrittenIsCertified, after_text}
pub use Rattle.engine.specs.{as_plan, broken_off, but_batch, case_decks, case_listed, case_named, case_of, case_parts, case_read, case_rest, certified_line, convertible_listing_read}
pub use Rattle.engine.specs.{convertible_steps_read, decks_task, decks_text, defined, failed_write, files_if, files_of, folder_use, gentle_verdict_line, gentle_verdict_status, job_of, job_task}
pub use Rattle.engine.specs.{jobs_read, lines_of, listing_read, made_fault, made_model, made_task, model_line, names_read, not_alike, of_both, of_first, of_second, parts_read, place_of_plan}
pub use Rattle.engine.specs.{plan_steps_read, plan_task, plan_verdict_line, plan_verdict_status, planned_task, read_by_name, second_by, sink_use, span_task_of, steps_read, summed_text, task_of}
pub use Rattle.engine.specs.{to_convertible_check, to_plan_check, unread, verdict_line, verdict_status, views_in, wells_read, words_text, zones_read, Batched.Batched, OneListing.OneListing}
pub use Rattle.engine.specs.{Stated.Stated, declared.job.Job.Job, declared.plan_parts.PlanParts.PlanParts, declared.zoned.ZonedListing.ZonedListing}
unfoldable pub use Rattle.engine.specs.{second_in}
pub use Rattle.exact_histories.proofs.WholeRuns.{have_one, history_exists, history_is_one}
pub use Rattle.exact_histories.specs.{HaveOneHistory}
pub use Rattle.gentle_run.specs.{declared.verdict.GentleVerdict.GentleVerdict, declared.verdict.GentleVerdict.TheVariants.Refused, declared.verdict.GentleVerdict.TheVariants.Steep}
pub use Rattle.listing_io.specs.{AreListed, IsListedAt, all_lines, convertible_listing_in, ended_line, first_line, listing_at, listing_in, or_bad_listing, refused_line, step_lines, view_text}
pub use Rattle.listing_io.specs.declared.listing.ListedStep.{ListedStep}
pub use Rattle.listing_run.proofs.{Lines.ends_by, Pieces.alone, Pieces.beside_by, Pieces.cut_listing_is_beside, Pieces.line_not_ok, Pieces.put_not_ok, Pieces.wanting_not_ok, Settled.IsWhole}
pub use Rattle.listing_run.proofs.{Settled.is_whole, Settled.whole_listing}
pub use Rattle.listing_run.specs.{AllSteps, BoundAll, BoundChoices, Bounds, HasLargeFlow, IsCutListing, IsListing, IsListingBeside, IsSettledBy, IsStep, IsTask, ListingExcludesRefusal, ListingIsOne}
pub use Rattle.listing_run.specs.{PairEncloses, Reaches, ReachesFirst, RefusalIsOne, RestsOrSettles, Steps, begun, deck_task, faces_of, last_line, left, listed, listing, no_budget, no_heads, no_zones}
pub use Rattle.listing_run.specs.{rests, settled, status_of, text_of, declared.solving.Step.Step, declared.steps.Task.Task, declared.text.ListingEnd.ListingEnd}
pub use Rattle.listing_summary.specs.{IsSummarized, summary_of, summary_text}
pub use Rattle.model_maker.specs.{made_files, made_name}
pub use Rattle.model_reader.specs.{model_of, names_in}
unfoldable pub use Rattle.model_reader.specs.{reads}
pub use Rattle.model_text.proofs.ModelForms.{deck_reads, read_writable, unit_is_short}
pub use Rattle.model_text.specs.{deck_files, deck_name}
unfoldable pub use Rattle.model_text.specs.{deck_text, zoned_text}
pub use Rattle.model_types.specs.{IsModel, cell_count, most_bytes, place, start_head, times, declared.limits.Limits.Limits, declared.limits.Limits.TheVariants.Plain}
pub use Rattle.model_types.specs.{declared.limits.Limits.TheVariants.Wide, declared.model.FlowModel.FlowModel, declared.time_steps.TimeStep.TimeStep}
pub use Rattle.outside.specs.{File, FileSet, FolderState, InputCounts, IsGoodName, IsReading, Put, PutsMake, ReadsOn, Rose, Seen, WordsMay, failed_put, file_at, file_refusal, folder_name, input_fault}
pub use Rattle.outside.specs.{is_good_name, refusal, whole_put, with_limit, declared.codes.Code.TheVariants.BadListing, declared.codes.Code.TheVariants.BadName, declared.inputs.InputFault.InputFault}
pub use Rattle.outside.specs.{declared.inputs.Refusal.Refusal, declared.inputs.TextFault.TextFault, declared.traits.SinkError.SinkError}
pub use Rattle.plan_chain.specs.{IsPlanTask, declared.step.PlanTask.PlanTask}
pub use Rattle.plan_check.specs.{IsPlanVerdict, PlanVerdictIsOne, declared.verdict.PlanListingVerdict.PlanListingVerdict}
pub use Rattle.plan_listing.specs.{AreListedPlan, plan_listing_in, declared.listing.ListedPlanStep.ListedPlanStep}
pub use Rattle.plan_run.proofs.Weathers.{histories_give_weathers, weathers_enclosed}
pub use Rattle.plan_run.specs.{AllListedSteps, EnclosesPairs, EnclosesWeathers, IsDefinedEnd, IsPlanListing, ListingEndsAt, ListsMore, PlanListingIsOne, PlanListingsEnclose, StepsThen}
pub use Rattle.plan_run.specs.{WeathersHaveOne, decks_planned, heads_listed, plan_listing, planned_in, declared.decks.PlannedDecks.PlannedDecks}
pub use Rattle.record_lines.specs.{Has, Stops, StopsText, ◌>>=◌}
pub use Rattle.run_puts.proofs.{Batches.batch_run, Batches.batch_settles, Batches.batches_agree, Batches.ends_of_jobs, Makes.all_written, Makes.early_rose, Pieces.IsLate, Pieces.lacks_at_first}
pub use Rattle.run_puts.proofs.{Pieces.late_not_read, Pieces.lone_line_is_run, Pieces.puts_are_joined, Pieces.run_of_less, Pieces.tail_late}
pub use Rattle.run_puts.specs.{Agree, Begins, EndsOutOfMemory, IsBatch, IsEnd, IsLast, IsRun, IsUnfinished, NeverCut, PutsMore, Text, all_due, code_of, cut, early, end_line, failed, first_not_ok}
pub use Rattle.run_puts.specs.{memory_put, nothing, or_else, read_fault_line, status_after, texts, wanting, whole, declared.job_end.JobEnd.JobEnd, declared.puts.Status.Status}
pub use Rattle.settle_driver.specs.{AddsPhases, EnclosesPair}
pub use Rattle.stated_text.specs.{CanBeRead, IsRefused, ListingIsReadBack, StandsIn, is_current, later_by, parts_text, steps_after, unlike, declared.part.Part.Part, declared.part.Parts.Parts}
pub use Rattle.step_chain.specs.{LeavesRange, edges_by, two}
pub use Rattle.step_problem.specs.{Edges, lower_at, upper_at, Entries.Entries, declared.heads.Bound.Bound, declared.heads.Side.TheVariants.High, declared.heads.Side.TheVariants.Low}
pub use Rattle.step_problem.specs.{declared.place.NoBound.NoBound}
pub use Rattle.view_puts.specs.{AreAllShown, IsStopPut, LeadOn, ViewPuts, no_lead, no_view}
pub use Rattle.water_table.specs.declared.convertible_layers.ConvertibleLayers.{ConvertibleLayers}
pub use Rattle.zone_file.proofs.ZoneLemmas.{numbers_small, zones_give}
pub use Rattle.zone_file.specs.{zones_of}
pub use Rattle.zone_pairs.specs.{AreNumbers, AreZones, AreZonesOf, pairs_below, pairs_in, zones_of_flow, declared.pair.ZonePair.ZonePair}
pub use denote.Ref.{Bor}
