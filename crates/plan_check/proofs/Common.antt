-- Names that several proofs of this crate cite, of the crates below and of its own definitions, passed on from one place. Declares nothing.
pub use Rattle.std.proofs.Common.{All, Contains, Err, List, None, Ok, Option, Result, Some, [], ap, arith, drop, get_or, inl, inr, length, map, refl, subst, suc, sym, true, ℕ, ℤ, ◌+◌, ◌-ℤ◌, ◌<◌, ◌∙◌}
pub use Rattle.std.proofs.Common.{◌∷◌, ◌≡◌, ◌≢◌, ◌≤ℤ◌, ◌≤◌, ◌⊎◌}
pub use Rattle.std.proofs.lemmas.List.{drop_all, drop_more, ext_get_or, get_or-map, length-map}
pub use Rattle.std.proofs.lemmas.Result.{IfErr-weaker, IfOk-weaker, err_from_is_err_and}
pub use Rattle.std.specs.List.{AllZip}
pub use Rattle.std.specs.Prelude.{Bool, IfErr, IfOk, IfSome, false, if◌then◌else◌}
pub use Rattle.budget_bounds.specs.{Covers, IsFirstUncovered}
pub use Rattle.cell_balance.proofs.Zips.{AllZip-at, AllZip-length}
pub use Rattle.cell_balance.specs.{ExactCell, minus}
pub use Rattle.cell_relax.specs.{AreWords}
pub use Rattle.check_run.proofs.HeadsChecked.{a_problem, cells_fail_once, certified_never_fail, checked_never_fails, checked_never_refused, checked_one, edges_certify, fails_never_refused, fails_one}
pub use Rattle.check_run.proofs.HeadsChecked.{refusals_one}
pub use Rattle.check_run.proofs.Reached.{AreReached, all_reached, first_unreached, reached_next}
pub use Rattle.check_run.proofs.RunText.{are_words, bounds_are, id_is, id_within, in_range, variable_listed}
pub use Rattle.check_run.specs.{AllReach, AreChecked, CoversFlow, FailAt, HeadsFailBy, IsConstantCell, IsFirstNarrow, IsFirstUnreached, failing, short, variable_bounds}
pub use Rattle.decimal_input.specs.{EnclosesSigned, Fraction}
pub use Rattle.deck_problems.specs.{AreDeckTables, AreDecks, ConstantPairIsOne, IsBefore, IsMember, IsProblemFor, StartHeadsEnclose, StartHeadsFit, declared.decks.Decks.Decks}
pub use Rattle.model_types.specs.{cell_count, index_of, is_variable, start_head, times, variable_cells, declared.limits.Limits.Limits, declared.model.FlowModel.FlowModel}
pub use Rattle.model_types.specs.{declared.time_steps.TimeStep.TimeStep}
pub use Rattle.plan_chain.proofs.Settling.{base_is, differences_are, planned_is, same_count, times_planned}
pub use Rattle.plan_chain.proofs.Walking.{apart_within, starts_are_heads, step_fits}
pub use Rattle.plan_chain.specs.{AreByCell, ArePlanHeads, AreStartsOf, BoundsPair, IsBeforeStep, IsPlanStep, IsPlanTask, IsTheirProblem, PlanStepEncloses, heads_in, plan_pairs}
pub use Rattle.plan_chain.specs.{declared.step.PlanHeads.PlanHeads, declared.step.PlanSolved.PlanSolved, declared.step.PlanTask.PlanTask}
pub use Rattle.plan_check.specs.{ArePosed, AreWide, BaseHolds, CertifiedPlansEnclose, Checks, DifferenceFailsAt, DifferencesFailBy, DifferencesHold, FailsAt, FailsBy, FlowFailsAt, FlowsFailBy}
pub use Rattle.plan_check.specs.{HaveNoBarrier, HeadsHold, IsPlanVerdict, IsRefused, IsVerdictAt, Passes, PlanVerdictIsOne, PlannedHolds, ReachesZero, SourcesHold, StopsAt, as_budget, at_source}
pub use Rattle.plan_check.specs.{at_zones, heads_before, in_base, in_differences, in_flows, in_planned, lent_heads, of_base, of_bound, of_check, of_differences, of_flows, of_planned, place_in}
pub use Rattle.plan_check.specs.{step_at, declared.fault.PlanCheckFault.PlanCheckFault, declared.verdict.PlanListingVerdict.PlanListingVerdict}
pub use Rattle.plan_check.specs.{declared.verdict.PlanListingVerdict.TheVariants.Certified, declared.verdict.PlanListingVerdict.TheVariants.Fails}
pub use Rattle.plan_check.specs.{declared.verdict.PlanListingVerdict.TheVariants.Refused}
pub use Rattle.plan_listing.specs.{AreBoundsOf, AreListedPlan, IsListedPlanStep, declared.listing.ListedPlanStep.ListedPlanStep}
pub use Rattle.plan_run.specs.{BoundPairs, BoundsPairStep, heads_listed}
pub use Rattle.plan_sources.specs.{EncloseMore, PlanFlowsEnclose, declared.flows.PlanFlows.PlanFlows}
pub use Rattle.plan_step.specs.{IsDifferenceProblem}
pub use Rattle.problem_builder.specs.{AreGridHeads, HeadsEnclose, IsActive, bound_at}
pub use Rattle.step_chain.proofs.{Histories.first_in, Histories.lies_encloses, Histories.next_in, Limits.cut_by}
pub use Rattle.step_chain.specs.{HasNoBarrier, HasNoPose, IsBarrierBy, IsBarrierFault, LiesWithin, declared.solved.Solved.Solved}
pub use Rattle.step_problem.specs.{Edges, IsCertificate, IsProblem, certified, entries_at, lower_at, no_bound, no_entries, settled, upper_at, Entries.Entries, declared.heads.Bound.Bound}
pub use Rattle.step_problem.specs.{declared.heads.Side.Side, declared.place.ZoneFlow.ZoneFlow}
pub use Rattle.zone_pairs.specs.{pairs_in, zones_of_flow, declared.pair.ZonePair.ZonePair}
