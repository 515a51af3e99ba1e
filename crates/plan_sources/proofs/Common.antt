-- Names that several proofs of this crate cite, of the crates below and of its own definitions, passed on from one place. Declares nothing.
pub use Rattle.std.proofs.Common.{All, Contains, List, None, Option, Some, [], ap, arith, get_or, inl, inr, length, map, neg_ℤ, refl, subst, suc, sym, take, true, zero, ℕ, ℤ, ◌++◌, ◌+◌, ◌-ℤ◌, ◌-◌}
pub use Rattle.std.proofs.Common.{◌<◌, ◌∙◌, ◌∷◌, ◌≡◌}
pub use Rattle.std.proofs.{lemmas.Int.ints, lemmas.List.get_or-map, lemmas.List.length-append, lemmas.List.length-map, lemmas.List.Elements.All-map, lemmas.List.Elements.All-weaker}
pub use Rattle.std.specs.Prelude.{IfSome, Ok, ◌⊎◌}
pub use Rattle.cell_balance.specs.{AreLinked, ExactCell, cell_at, no_cell, share}
pub use Rattle.decimal_input.specs.{EnclosesSigned, Fraction}
pub use Rattle.deck_problems.proofs.OneProblem.{cell_of_member, hull_parts}
pub use Rattle.deck_problems.specs.{HasCellsOf, IsMember, IsProblemBy, IsSecond, ProblemFits}
pub use Rattle.flow_equations.specs.{SolvesAt, exact_cell, exact_fixed, exact_step, variable_heads}
pub use Rattle.model_types.specs.{FixedSource, FromStorage, IsModel, ToConstant, ToGeneral, cell_count, fixed_sources, period_at, times, variable_cells, declared.model.FlowModel.FlowModel}
pub use Rattle.model_types.specs.{declared.time_steps.TimeStep.TimeStep}
pub use Rattle.plan_chain.specs.{ArePlanHeads, BoundsPair, IsBeforeStep, IsPlanStep, IsPlanTask, PlanStepEncloses, heads_in, plan_pairs, declared.step.PlanHeads.PlanHeads}
pub use Rattle.plan_chain.specs.{declared.step.PlanSolved.PlanSolved, declared.step.PlanTask.PlanTask}
pub use Rattle.plan_enclosed.specs.{AreOneNetwork, AreTwoSolutions, IsSameBranch, SourcesEnclose, ZonesEnclose, is_listed, more_flow, more_net}
pub use Rattle.plan_histories.specs.{KeepsWellsApart, MembersKeepWellsApart, PlannedSteps, plan_flows}
pub use Rattle.plan_sources.specs.{EncloseMore, PlanFlowsEnclose, PlanStepsHaveFlows, rise, sources_of, zones_of}
unfoldable pub use Rattle.plan_sources.specs.{flows_of}
pub use Rattle.plan_step.specs.{IsDifferenceProblem, SolutionsBoundPlans, bound_at, difference_cell, drain_branch, evap_branch, known_branch, river_branch}
pub use Rattle.plan_wells.specs.{IsWell, PlannedLieBetween, with_plan}
pub use Rattle.problem_builder.specs.{AreGridHeads, HeadsEnclose, IsActive, IsCellNamed, IsProblemOf, model_branches}
pub use Rattle.step_chain.specs.{StepEncloses, edges_by}
pub use Rattle.step_problem.specs.{IsHead, IsProblem, entries_at, lower_at, no_bound, upper_at, declared.heads.Bound.Bound}
