-- Names that several proofs of this crate cite, of the crates below and of its own definitions, passed on from one place. Declares nothing.
pub use Rattle.std.proofs.Common.{Contains, Err, List, None, Ok, Option, Result, Some, [], ap, arith, drop, get_or, inl, inr, length, map, mul-pos, refl, rules, subst, suc, sym, zero, ℕ, ℤ, ◌*◌, ◌++◌}
pub use Rattle.std.proofs.Common.{◌+◌, ◌<◌, ◌∙◌, ◌∷◌, ◌≡◌, ◌⊎◌}
pub use Rattle.std.proofs.lemmas.Bool.{cases_lt, cases_order}
pub use Rattle.std.proofs.lemmas.List.{append-nil, ext_get_or, get_or_past, length-map, map-append}
pub use Rattle.std.proofs.lemmas.List.Elements.{All-cons, All-head, All-map, All-nil, All-tail, length_all_zip}
pub use Rattle.std.specs.List.{AllZip, flat_map}
pub use Rattle.std.specs.Prelude.{All, Bool, IfSome, false, if◌then◌else◌, is_some, not, option_map, true, ◌&&◌, ◌-ℤ◌}
pub use Rattle.barrier_vector.specs.{BarrierExcludesRefusal, CutBarrierExcludesRefusal, CutBarrierIsOne, CutRefusalIsOne}
pub use Rattle.certificate_check.specs.{CertificateExcludesRefusal, IsRangeRefusal, RangeRefusalIsOne}
pub use Rattle.decimal_input.specs.{EnclosesSigned, Fraction}
pub use Rattle.deck_problems.proofs.OneProblem.{encloses_member, own_solves, solves_own}
pub use Rattle.deck_problems.specs.{AreDecks, IsBefore, IsMember, IsOf, IsProblemFor, IsSecond, ProblemFits, StartHeadsAreOne, StartHeadsEnclose, StartHeadsFit, declared.decks.Decks.Decks}
pub use Rattle.deck_span.specs.{AreAlike, AreChoices, ArePeriodsAlike, Choice, IsBetween, IsChoiceBetween, SolvesChoiceAt, SolvesChoicesFrom, own_choice}
pub use Rattle.flow_equations.specs.{SolvesAt, SolvesFrom, heads_of}
pub use Rattle.model_types.specs.{IsModel, cell_count, is_constant, start_head, times, variable_cells, declared.entry.Entry.Entry, declared.limits.Limits.Limits, declared.model.FlowModel.FlowModel}
pub use Rattle.model_types.specs.{declared.time_steps.TimeStep.TimeStep}
pub use Rattle.outside.specs.{Put, refusal, whole_put}
pub use Rattle.plan_chain.proofs.{Enclosing.planned_member, Members.encloses_first, Members.lies_in_first, Members.member_cells, Members.member_starts, Walking.apart_within, Walking.starts_are_heads}
pub use Rattle.plan_chain.proofs.{Walking.step_fits}
pub use Rattle.plan_chain.specs.{AllPlanSteps, AreByCell, AreDifferencesBy, ArePlanHeads, AreStartsOf, BothHaveOne, FailBy, HasNoBoundAt, IsAtFirst, IsBaseStep, IsBeforeStep, IsNext, IsPlanStep}
pub use Rattle.plan_chain.specs.{IsPlanTask, IsPlanWalk, IsPlannedDeckStep, PlanStepEncloses, PlanSteps, decks_with, heads_in, plan_pairs, times_left, declared.step.PlanHeads.PlanHeads}
pub use Rattle.plan_chain.specs.{declared.step.PlanPart.PlanPart, declared.step.PlanPart.TheVariants.Base, declared.step.PlanPart.TheVariants.Differences, declared.step.PlanPart.TheVariants.Planned}
pub use Rattle.plan_chain.specs.{declared.step.PlanSolved.PlanSolved, declared.step.PlanTask.PlanTask, declared.walk.PlanEnd.PlanEnd, declared.walk.PlanEnd.TheVariants.Unfinished}
pub use Rattle.plan_chain.specs.{declared.walk.PlanEnd.TheVariants.Whole, declared.walk.PlanWalk.PlanWalk}
pub use Rattle.plan_histories.proofs.PlannedSteps.{cells_same, nothing_apart}
pub use Rattle.plan_histories.specs.{SolvesPairsFrom}
pub use Rattle.plan_listing.specs.{plan_first_text, declared.listing.ListedPlanStep.ListedPlanStep}
pub use Rattle.plan_run.specs.{AllListedSteps, BoundPairs, BoundsPairStep, EnclosesPairs, EnclosesWeathers, FirstSteps, HasRefusal, HistoriesGiveWeathers, IsCutPlanListing, IsDefinedEnd, IsListedStep}
pub use Rattle.plan_run.specs.{IsNextText, IsPlanListing, IsWeatherOf, ListingEndsAt, ListsMore, PlanListingIsOne, PlanListingsEnclose, SolveSteps, SolveWeather, StepsThen, Weather, first_pieces}
pub use Rattle.plan_run.specs.{heads_listed, last_line, listed_of, plan_listing, second_planned, status_of, text_of}
pub use Rattle.plan_sources.specs.{PlanFlowsEnclose, rise, sources_of, zones_of, declared.flows.PlanFlows.PlanFlows}
unfoldable pub use Rattle.plan_sources.specs.{flows_of}
pub use Rattle.plan_step.specs.{IsDifferenceProblem, difference_cell, drain_branch, evap_branch, known_branch, river_branch}
pub use Rattle.plan_wells.specs.{IsPlan, PlannedAreAlike, PlannedAreValid, PlannedLieBetween, are_few, planned, with_plan}
pub use Rattle.problem_builder.specs.{bound_at}
pub use Rattle.run_puts.proofs.Pieces.{IsAt, at_more, ends_or_lacks, joined_thrice, lacks_after, lacks_at_first, put_was, puts_are_joined, stops_at}
pub use Rattle.run_puts.specs.{EndsOutOfMemory, IsEnd, IsPut, IsRun, Text, declared.puts.Status.Status}
pub use Rattle.step_chain.proofs.{Histories.first_in, Histories.lies_encloses, Histories.next_in, OneStep.same_bounds, OneStep.settled_one}
pub use Rattle.step_chain.specs.{HasNoBarrier, HasNoHeads, HeadsFit, IsBarrierBy, IsNoCertificate, IsStepBy, RefusalIsOne, StepExcludesRefusal, StepIsOne, edges_by}
pub use Rattle.step_problem.specs.{AreSettled, Edges, IsCertificate, IsProblem, PairKind, SettledPairIsOne, certified, entries_at, lower_at, no_bound, no_entries, settled, upper_at, Entries.Entries}
pub use Rattle.step_problem.specs.{declared.heads.Bound.Bound, declared.place.NoBound.NoBound}
