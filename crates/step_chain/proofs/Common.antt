-- Names that several proofs of this crate cite, of the crates below and of its own definitions, passed on from one place. Declares nothing.
pub use Rattle.std.proofs.Common.{Bool, Contains, List, [], ap, arith, cond, false, get_or, inl, inr, length, map, pos, refl, set, subst, suc, sym, true, ℕ, ℤ, ◌*ℤ◌, ◌+◌, ◌-◌, ◌<◌, ◌^◌, ◌∙◌, ◌∷◌, ◌≡◌}
pub use Rattle.std.proofs.Common.{◌≤ℤ◌, ◌≤◌}
pub use Rattle.std.proofs.lemmas.Bool.{and_parts, cases_Bool, cases_order, false_from_ne_true, not-true, true≢false}
pub use Rattle.std.proofs.lemmas.Int.{clamps, ints}
pub use Rattle.std.specs.Prelude.{Err, IfOk, Ok, Result, not, ◌&&◌}
pub use Rattle.barrier_vector.proofs.Outlining.{clamped_at, clamped_fits}
pub use Rattle.barrier_vector.specs.{BarrierExcludesRefusal, CutBarrierExcludesRefusal, CutBarrierIsOne, CutRefusalIsOne, EnclosesUncut, IsCellCeiling, IsCellFloor, IsCutBarrierOf, clamped_edges}
pub use Rattle.cell_balance.specs.{CellEncloses, EnclosesSolutions, EnclosesStep, ExactCell, IsHeldBelow, LiesBetween, SolvesStep, cell_at, no_cell}
pub use Rattle.cell_relax.specs.{AreWords}
pub use Rattle.certificate_check.specs.{CertificateEncloses, CertificateExcludesRefusal, ClampedPairEncloses, IsRangeRefusal, RangeRefusalIsOne, SettledPairEncloses}
pub use Rattle.decimal_input.specs.{EnclosesSigned, Fraction}
pub use Rattle.deck_problems.specs.{AreDecks, ConstantPairEncloses, ConstantPairFits, ConstantPairIsOne, EnclosesChoice, EnclosesChoices, HasConstantHeadFor, IsBefore, IsConstantPairFor, IsProblemFor}
pub use Rattle.deck_problems.specs.{ProblemEncloses, ProblemFits, StartHeadsEnclose, StartHeadsFit, declared.decks.Decks.Decks}
pub use Rattle.deck_span.specs.{Choice, IsChoiceBetween, SolvesChoicesFrom, step_from}
pub use Rattle.flow_equations.specs.{heads_of, variable_heads}
pub use Rattle.model_types.specs.{cell_count, index_of, is_active, is_constant, is_variable, kind_of, times, variable_cells, declared.limits.Limits.Limits, declared.limits.Limits.TheVariants.Plain}
pub use Rattle.model_types.specs.{declared.limits.Limits.TheVariants.Wide, declared.model.FlowModel.FlowModel, declared.time_steps.TimeStep.TimeStep}
pub use Rattle.problem_builder.proofs.{Members.In-Contains, Members.constant_active, Members.variable_active, Steps.not_refused, Steps.same_problem, Steps.same_refusal}
pub use Rattle.problem_builder.specs.{AreGridHeads, HeadsEnclose, IsActive, bound_at}
pub use Rattle.step_chain.specs.{AreHeadsOf, AreSteps, EnclosesMove, EnclosesMoves, FailsBy, HasNoBarrier, HasNoHeads, HasNoPose, HeadsFit, HistoriesLieWithin, IsBarrierBy, IsMove, IsNoCertificate}
pub use Rattle.step_chain.specs.{IsPosed, IsStepBy, LeadsBy, LeadsOrRests, LeadsWithout, LeavesRange, LieWithin, LiesBetweenBy, LiesWithin, RefusalIsOne, SettlesNot, StepEncloses, StepExcludesRefusal}
pub use Rattle.step_chain.specs.{StepIsOne, WideKeepsSteps, edges_by, two, declared.solved.Solved.Solved}
pub use Rattle.step_problem.proofs.Pairs.{either_certifies, given_is}
pub use Rattle.step_problem.specs.{AreInside, AreSettled, Edges, IsBarrier, IsCertificate, IsGiven, IsHead, IsPairOf, IsProblem, IsSettledPair, PairKind, SettledPairExists, SettledPairIsOne}
pub use Rattle.step_problem.specs.{certified, head_at, lower_at, no_bound, settled, upper_at, Entries.Entries, declared.heads.Bound.Bound, declared.place.NoBound.NoBound}
pub use Rattle.step_problem.specs.{declared.refusal.BoundFault.BoundFault}
