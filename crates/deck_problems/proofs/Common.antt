-- Names that several proofs of this crate cite, of the crates below and of its own definitions, passed on from one place. Declares nothing.
pub use Rattle.std.proofs.Common.{Contains, List, None, Option, Some, [], ap, arith, get_or, inl, inr, length, map, refl, set, subst, sym, true, ℕ, ℤ, ◌+◌, ◌<◌, ◌∙◌, ◌∷◌, ◌≡◌, ◌≤◌}
pub use Rattle.std.proofs.lemmas.List.{ext_get_or, get_or-map, get_or-set_other, get_or-set_same, get_or_default, length-map, length-set}
pub use Rattle.std.specs.Option.{option_to_list}
pub use Rattle.std.specs.Prelude.{Bool, Err, IfSome, Ok, Result, cond, false, not, ◌&&◌}
pub use Rattle.cell_balance.specs.{EnclosesStep, ExactCell, SolvesStep}
pub use Rattle.decimal_input.specs.{EnclosesSigned, Fraction}
pub use Rattle.deck_problems.specs.{AreConstantHeadsFor, AreDecks, AreHullBounds, AreStartHeadsFor, AreStartHulls, AreStartsBy, ConstantPairEncloses, ConstantPairFits, ConstantPairIsOne}
pub use Rattle.deck_problems.specs.{EnclosesChoice, EnclosesSteps, HasCellsOf, IsChoiceOf, IsConstantHull, IsFaultFor, IsHullBound, IsHullRefusal, IsOwnChoice, IsPairOf, IsProblemBy, IsProblemFor}
pub use Rattle.deck_problems.specs.{IsSecond, IsStartOf, ProblemEncloses, ProblemFits, ProblemsAreAlike, StartHeadsAreOne, StartHeadsEnclose, StartHeadsFit, hull_or_refusal, one_deck, problem_by}
pub use Rattle.deck_problems.specs.declared.decks.Decks.{Decks}
pub use Rattle.deck_span.proofs.{AlikeBetween.alike_between, HullBounds.hull_of_numbers}
pub use Rattle.deck_span.specs.{AllThree, AreAlike, Choice, IsBetween, IsChoiceBetween, IsFractionBetween, IsPeriodBetween, IsStepBetween, SolvesChoiceAt, next, none, own_choice, step_from}
pub use Rattle.model_types.specs.{FixedSource, FlowSource, IsModel, cell_count, constant_head, index_of, is_active, is_constant, is_variable, start_head, times, variable_cells, variable_faces}
pub use Rattle.model_types.specs.{declared.model.FlowModel.FlowModel, declared.time_steps.TimeStep.TimeStep}
pub use Rattle.problem_builder.proofs.{CellFits.item_is, CellFits.starts_enclose, CellFits.starts_fit, Steps.cells_of, Steps.unless_parts, TimesOf.time_of}
pub use Rattle.problem_builder.specs.{AreConstantHeads, AreGridHeads, AreStartHeads, HeadsEnclose, IsActive, IsBuildFault, IsBuilt, IsCellNamed, IsProblemOf, bound_at, constant_bound, each_cell}
pub use Rattle.problem_builder.specs.{known_bound, problem_of, start_bound, unless_refused, whole_cell, whole_drain, whole_evap, whole_fixed, whole_flow, whole_link, whole_river}
pub use Rattle.problem_hull.proofs.{Fits.is_problem, Fits.lower_head, Fits.upper_head, Hulls.hull_at, Hulls.hull_count, Hulls.hull_keeps, Hulls.same_lengths, Hulls.zip_at, Hulls.zip_left}
pub use Rattle.problem_hull.specs.{IsHull, cell_hull, cell_shape, drain_shape, evap_shape, first_refusal, fixed_hull, fixed_shape, flow_shape, river_shape, zip_with}
pub use Rattle.step_problem.specs.{IsHead, IsProblem, entries_at, lower_at, no_bound, no_entries, upper_at, Entries.Entries, declared.heads.Bound.Bound, declared.place.NoBound.NoBound}
