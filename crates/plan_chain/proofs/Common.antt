-- Names that several proofs of this crate cite, of the crates below and of its own definitions, passed on from one place. Declares nothing.
pub use Rattle.std.proofs.Common.{All, Contains, List, None, Option, Some, [], ap, arith, drop, get_or, inl, inr, length, map, pos, refl, replicate, set, subst, suc, sym, true, zero, ℕ, ℤ, ◌*ℤ◌, ◌*◌}
pub use Rattle.std.proofs.Common.{◌+◌, ◌-ℤ◌, ◌<◌, ◌^◌, ◌∙◌, ◌∷◌, ◌≡◌, ◌≤ℤ◌, ◌≤◌}
pub use Rattle.std.proofs.{lemmas.Bool.cases_Bool, lemmas.Bool.cases_lt, lemmas.Bool.cases_order, lemmas.Bool.true≢false, lemmas.Int.ints, lemmas.List.get_or-map, lemmas.List.get_or-replicate}
pub use Rattle.std.proofs.{lemmas.List.get_or-set_other, lemmas.List.get_or-set_same, lemmas.List.get_or_default, lemmas.List.get_or_past, lemmas.List.length-replicate, lemmas.List.length-set}
pub use Rattle.std.specs.Prelude.{IfErr, IfOk, not, option_map, ◌&&◌, ◌⊎◌}
pub use Rattle.cell_balance.specs.{CellEncloses, EnclosesSolutions, EnclosesStep, ExactCell, LiesBetween, cell_at, minus, no_cell, share}
pub use Rattle.decimal_input.specs.{EnclosesSigned, Fraction, IsOver}
pub use Rattle.deck_problems.proofs.OneProblem.{HasCellsOf, between_cells, cell_of_first, cell_of_member, encloses_member, own_choice_is, own_solves}
pub use Rattle.deck_problems.specs.{AreDeckTables, IsBefore, IsChoiceOf, IsMember, IsOf, IsOwnChoice, IsStartOf, ProblemFits, StartHeadsEnclose, StartHeadsFit, declared.decks.Decks.Decks}
pub use Rattle.deck_span.specs.{IsPeriodBetween, SolvesChoiceAt, own_choice}
pub use Rattle.flow_equations.specs.{SolvesAt, exact_step, heads_of, variable_heads}
pub use Rattle.model_types.specs.{IsModel, cell_count, constant_head, index_of, is_active, is_constant, is_variable, period_at, start_head, times, variable_cells, declared.limits.Limits.Limits}
pub use Rattle.model_types.specs.{declared.model.FlowModel.FlowModel, declared.time_steps.TimeStep.TimeStep}
pub use Rattle.plan_chain.specs.{AreByCell, AreDifferencesBy, ArePlanHeads, AreStartsOf, BothHaveOne, BoundsPair, BoundsPairs, FailBy, FailsAt, FailsInPart, IsBaseStep, IsBeforeStep, IsPlanStep}
pub use Rattle.plan_chain.specs.{IsPlanTask, IsPlannedDeckStep, IsTheirProblem, PairsLieWithin, PlanStepEncloses, PlanSteps, StopsAt, decks_with, heads_in, plan_pairs, stop_by, stop_of}
pub use Rattle.plan_chain.specs.{declared.step.PlanHeads.PlanHeads, declared.step.PlanSolved.PlanSolved, declared.step.PlanTask.PlanTask}
pub use Rattle.plan_histories.proofs.{Pairs.times_same, PlannedSteps.cells_same, PlannedSteps.head_same, PlannedSteps.nothing_apart, PlannedSteps.variable_same}
pub use Rattle.plan_histories.specs.{MembersKeepWellsApart, PlannedSteps, SolvesPairsFrom, plan_flows}
pub use Rattle.plan_wells.specs.{IsWell, PlannedLieBetween, with_plan}
pub use Rattle.problem_builder.specs.{AreGridHeads, HeadsEnclose, IsActive, bound_at}
pub use Rattle.step_chain.proofs.OneStep.{pair_words}
pub use Rattle.step_chain.specs.{AreSteps, FailsBy, HeadsFit, IsBarrierBy, IsBarrierFault, IsStepBy, LiesWithin, SettlesNot, StepEncloses, edges_by, of_bound, declared.solved.Solved.Solved}
pub use Rattle.step_chain.specs.{declared.solved.StepFault.StepFault}
pub use Rattle.step_problem.specs.{Edges, IsHead, IsProblem, PairKind, entries_at, lower_at, no_bound, no_entries, upper_at, Entries.Entries, declared.heads.Bound.Bound}
