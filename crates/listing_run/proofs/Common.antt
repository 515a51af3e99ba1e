-- Names that several proofs of this crate cite, of the crates below and of its own definitions, passed on from one place. Declares nothing.
pub use Rattle.std.proofs.Common.{All, Bool, Contains, Err, List, None, Ok, Option, Result, Some, [], ap, arith, drop, get_or, inl, inr, length, map, refl, rules, subst, suc, sym, true, ℕ, ℤ, ◌++◌}
pub use Rattle.std.proofs.Common.{◌+◌, ◌-◌, ◌<◌, ◌∙◌, ◌∷◌, ◌≡◌}
pub use Rattle.std.proofs.lemmas.List.{append-nil, append_assoc, map-append}
pub use Rattle.std.specs.List.{AllZip, concat}
pub use Rattle.std.specs.Prelude.{IfErr, IfOk, IfSome, MatchResult, false, if◌then◌else◌, ◌⊎◌}
pub use Rattle.budget_bounds.specs.declared.pair.Budget.{Budget}
pub use Rattle.cell_balance.specs.{EnclosesStep, ExactCell, LiesBetween}
pub use Rattle.decimal_input.specs.{EnclosesSigned, Fraction}
pub use Rattle.deck_problems.specs.{AreDecks, AreStartHeadsFor, EachChoice, EnclosesStarts, IsBefore, IsChoiceOf, IsProblemFor, IsStartOf, StartHeadsAreOne, StartHeadsFit}
pub use Rattle.deck_span.specs.{Choice, IsChoiceBetween, SolvesChoicesFrom, own_choice, step_from}
pub use Rattle.flow_equations.specs.{SolvesAt, SolvesFrom, exact_step, heads_of, variable_heads}
pub use Rattle.listing_io.specs.{first_text}
pub use Rattle.listing_run.specs.{AllSettle, AllSteps, AreFlowsAt, AreFlowsOf, BoundAll, BoundChoices, Bounds, BoundsMoves, BoundsMovesOf, EnclosesHistories, EndsAt, FirstSteps, FlowsEnclose}
pub use Rattle.listing_run.specs.{HasLargeFlow, HasLargeFlowOf, HasNoBound, HistoriesBound, IsAtFirst, IsCutListing, IsListing, IsListingBeside, IsNext, IsNextText, IsPushed, IsSettledBy, IsSolved}
pub use Rattle.listing_run.specs.{IsStep, IsStopEnd, IsWalk, ListingExcludesRefusal, ListingIsOne, PairEncloses, Reaches, ReachesFirst, RefusalIsOne, RestsOrSettles, RestsOrSettlesFirst}
pub use Rattle.listing_run.specs.{SettledListingIsClosed, StepsThen, StopsAt, WideKeepsListings, begun, budget_at, deck_task, first_pieces, is_between, last_line, left, listed, listing, no_budget}
pub use Rattle.listing_run.specs.{no_heads, no_zones, pairs_of, rests, settled, status_of, stop_of, text_of, times_left, declared.solving.Step.Step, declared.steps.Steps.Steps}
pub use Rattle.listing_run.specs.{declared.steps.Task.Task, declared.text.ListingEnd.ListingEnd}
pub use Rattle.model_types.specs.{cell_count, start_head, times, declared.limits.Limits.Limits, declared.limits.Limits.TheVariants.Plain, declared.limits.Limits.TheVariants.Wide}
pub use Rattle.model_types.specs.{declared.model.FlowModel.FlowModel, declared.time_steps.TimeStep.TimeStep}
pub use Rattle.outside.specs.{Put, whole_put, declared.traits.SinkError.SinkError, declared.traits.SinkError.TheVariants.Write}
pub use Rattle.problem_builder.specs.{AreGridHeads, HeadsEnclose, IsActive, IsCellNamed}
pub use Rattle.run_puts.proofs.Pieces.{IsAt, IsLate, at_more, ends_or_lacks, joined_thrice, lacks_after, lacks_at_first, late_not_ok, put_was, puts_are_joined, run_of_less, stops_at, tail_late}
pub use Rattle.run_puts.specs.{EndsOutOfMemory, IsEnd, IsLast, IsPut, IsRun, Text, end_line, memory_put, status_after, wanting, whole, declared.puts.Status.Status}
pub use Rattle.step_chain.proofs.Histories.{first_in, lies_encloses}
pub use Rattle.step_chain.specs.{EnclosesMoves, HeadsFit, IsPosed, IsSettledStep, IsStepBy, LeadsBy, LeadsOrRests, LieBetween, LiesBetweenBy, StepExcludesRefusal, StepIsOne, WideKeepsSteps, edges_by}
pub use Rattle.step_chain.specs.declared.solved.Solved.{Solved}
pub use Rattle.step_problem.specs.{Edges, IsSettledPair, PairKind, RoundsSettleBoth, entries_at, lower_at, upper_at, Entries.Entries, declared.heads.Bound.Bound, declared.place.NoBound.NoBound}
pub use Rattle.step_problem.specs.{declared.place.ZoneFlow.ZoneFlow}
