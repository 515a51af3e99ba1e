-- Names that several proofs of this crate cite, of the crates below and of its own definitions, passed on from one place. Declares nothing.
pub use Rattle.std.proofs.Common.{Bool, Err, List, None, Ok, Option, Result, Some, [], ap, cond, false, get_or, map, refl, subst, suc, sym, true, zero, ℕ, ℤ, ◌++◌, ◌+◌, ◌∙◌, ◌∷◌, ◌≡◌}
pub use Rattle.gentle_problem.specs.{branches_at}
pub use Rattle.listing_run.specs.{AreFlowsOf, faces_of, flows_or_large}
pub use Rattle.model_types.specs.{FixedSource, FromStorage, IsModel, ToConstant, ToGeneral, as_general, constant_faces, fixed_sources, local_entries, period_at, storage_at, variable_cells}
pub use Rattle.model_types.specs.{variable_faces, declared.model.FlowModel.FlowModel, declared.time_steps.TimeStep.TimeStep}
pub use Rattle.problem_builder.proofs.Steps.{cells_over}
pub use Rattle.problem_builder.specs.{Branches, IsActive, IsCellNamed, IsProblemOver, cell_over, fixed_over, link_over, step_over}
pub use Rattle.step_problem.specs.{IsProblem, entries_at, lower_at, no_entries, upper_at, Entries.Entries, declared.heads.Bound.Bound, declared.place.ZoneFlow.ZoneFlow}
pub use Rattle.zone_flows.proofs.ListedFlows.{IsZoneFlow, flows_of_pairs}
pub use Rattle.zone_flows.specs.{EncloseExact, Face, HeadsLieWithin, exact_flow, fixed_faces, link_faces, share}
