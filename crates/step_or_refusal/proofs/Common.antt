-- Names that several proofs of this crate cite, of the crates below and of its own definitions, passed on from one place. Declares nothing.
pub use Rattle.std.proofs.Common.{Bool, List, Option, [], ap, arith, false, inl, inr, length, map, neg_ℤ, pos, refl, subst, sym, true, ℕ, ℤ, ◌+◌, ◌-ℤ◌, ◌<ℤ◌, ◌<◌, ◌∙◌, ◌∷◌, ◌≡◌, ◌≤ℤ◌, ◌≤◌, ◌⊎◌}
pub use Rattle.std.proofs.{lemmas.Bool.cases_Bool, lemmas.Bool.cases_lt, lemmas.Bool.false≢true, lemmas.Int.by_lt_z, lemmas.Int.ints, lemmas.List.FromFn.get_or-map-range_with_len}
pub use Rattle.std.proofs.{lemmas.List.FromFn.length-map-range_with_len}
pub use Rattle.std.specs.List.{range_with_len}
pub use Rattle.std.specs.Prelude.{Err, Ok, Result, not, ◌&&◌}
pub use Rattle.barrier_vector.proofs.Decided.{Decided, IsFirstBelow, first_or_none, lead_is_path}
pub use Rattle.barrier_vector.specs.{AnchorRoot, AreCutBounds, HasNoBound, IsAnchoredBound, IsBoundOn, IsCutBoundOn, IsLeastWith, IsOutOfRange, IsPath, IsRefusedOn, IsUnanchored, IsWholeSide, Names}
pub use Rattle.barrier_vector.specs.{Nowhere, Refuses, RefusesOn, anchor_on, base_on, ceil_over, clamped_edges, cut_on, moved_out, need, no_barrier_on, range_on}
pub use Rattle.deck_problems.specs.{IsBefore, one_deck}
pub use Rattle.model_types.specs.{IsModel, cell_count, index_of, is_active, is_variable, times, declared.model.FlowModel.FlowModel, declared.time_steps.TimeStep.TimeStep}
pub use Rattle.problem_builder.specs.{AreGridHeads, IsConstantPair, ProblemFits, StartHeadsFit, bound_at, constant_bound, each_cell, problem_of, start_bound}
pub use Rattle.step_chain.proofs.Limits.{edges_fit}
pub use Rattle.step_chain.specs.{AreHeadsOf, HasNoHeads, HeadsFit, IsSettledStep, edges_by, declared.solved.Solved.Solved}
pub use Rattle.step_or_refusal.specs.{BarrierOrRefusal, CutBarrierOrRefusal, ListingOrRefusal, StepOrRefusal}
pub use Rattle.step_problem.specs.{AreSettled, Edges, IsCertificate, IsFirstSettled, IsProblem, IsSettledPair, SettledPairExists, entries_at, head_at, head_limit, lower_at, lower_balance, no_bound}
pub use Rattle.step_problem.specs.{number_of, upper_at, upper_balance, Entries.Entries, declared.heads.Bound.Bound, declared.heads.Side.Side, declared.heads.Side.TheVariants.High}
pub use Rattle.step_problem.specs.{declared.heads.Side.TheVariants.Low, declared.place.NoBound.NoBound}
