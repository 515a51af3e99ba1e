-- Names that several proofs of this crate cite, of the crates below and of its own definitions, passed on from one place. Declares nothing.
pub use Rattle.std.proofs.Common.{All, Contains, List, Option, [], ap, arith, cond, get_or, inl, inr, length, map, mul-pos, mul_comm, nat_eq, not, pos, refl, subst, suc, sym, true, zero, ℕ, ℤ, ◌*ℤ◌}
pub use Rattle.std.proofs.Common.{◌*◌, ◌-◌, ◌<◌, ◌∙◌, ◌∷◌, ◌≡◌}
pub use Rattle.std.proofs.lemmas.Bool.{and_parts, cases_Bool, cases_eq, cases_lt, eq-eqb, ne_eqb, not-true}
pub use Rattle.std.proofs.lemmas.List.Elements.{All-cons, All-head, All-nil, All-tail}
pub use Rattle.std.specs.List.{AllZip}
pub use Rattle.std.specs.Prelude.{None, Some}
pub use Rattle.cell_balance.specs.{EnclosesStep, ExactCell, ExactFixed, ExactLink, SolvesStep, balance, cell_at, drain_flow, evap_flow, fixed_flow, link_flow, minus, no_cell, river_flow, share}
pub use Rattle.decimal_input.proofs.FloorLaws.{Same-sym, Same-trans, last_factors_swap}
pub use Rattle.decimal_input.specs.{Fraction, IsOver, as_fraction, fraction_total, Fractions.Same, Fractions.den, Fractions.plus}
pub use Rattle.deck_problems.proofs.{Enclosing.pair_encloses, Enclosing.pair_fits, Enclosing.problem_encloses, Enclosing.problem_fits, OneProblem.chosen_cells, OneProblem.one_valid}
pub use Rattle.deck_problems.proofs.{OneProblem.own_choice_is, OneProblem.own_solves, OneProblem.solves_own, Starting.starts_enclose_all, Starting.starts_fit_decks}
pub use Rattle.deck_problems.specs.{AreDecks, IsBefore, IsChoiceOf, IsStartOf, one_deck, declared.decks.Decks.Decks}
pub use Rattle.deck_span.specs.{Choice, IsBetween, IsCellBetween, IsChoiceBetween, IsStepBetween, SolvesChoiceAt, SolvesChoicesFrom, fixed_from, head_from, none, own_choice, step_from}
pub use Rattle.exact_histories.specs.{AreSame, AreSameHeads, ChoicesHaveOne, ChoicesHaveOneHistory, HasOneHistory, HaveOneBy, HaveOneHistory, ModelsAreChosen, RunsHaveAHistory, RunsHaveOneHistory}
pub use Rattle.exact_solutions.specs.{HasAtMostOne, IsAnchoredAbove, IsHeldAbove}
pub use Rattle.flow_equations.proofs.Links.{are_linked, below_is, index_is}
pub use Rattle.flow_equations.specs.{SolvesFrom, exact_step, heads_of, variable_heads}
pub use Rattle.model_types.specs.{HasSize, IsModel, cell_count, index_of, is_active, is_constant, is_variable, start_head, times, variable_cells, declared.limits.Limits.Limits}
pub use Rattle.model_types.specs.{declared.model.FlowModel.FlowModel, declared.time_steps.TimeStep.TimeStep}
pub use Rattle.problem_builder.proofs.TimesOf.{time_of}
pub use Rattle.problem_builder.specs.{AreGridHeads, HeadsEnclose}
pub use Rattle.step_chain.proofs.{Histories.first_in, Histories.lies_encloses, Histories.next_in, OneStep.all_fit, OneStep.steps_enclose}
pub use Rattle.step_chain.specs.{AreSteps, IsPosed, IsStepBy, two, declared.solved.Solved.Solved}
pub use Rattle.step_problem.proofs.Leasts.{mul_assoc}
pub use Rattle.step_problem.specs.{Edges, IsProblem, PairKind, entries_at, Entries.Entries, declared.heads.Bound.Bound}
