-- Names that several proofs of this crate cite, of the crates below and of its own definitions, passed on from one place. Declares nothing.
pub use Rattle.std.proofs.Common.{All, Bool, Err, List, Ok, Option, [], ap, arith, drop, false, get_or, inl, inr, length, map, refl, subst, suc, sym, true, ℕ, ℤ, ◌+◌, ◌<◌, ◌∙◌, ◌∷◌, ◌≡◌, ◌≤◌, ◌⊎◌}
pub use Rattle.std.proofs.{lemmas.Bool.cases_order, lemmas.List.Elements.All-contains_itself, lemmas.List.Elements.All-get_or, lemmas.List.Elements.All-head, lemmas.List.Elements.All-tail}
pub use Rattle.std.proofs.{lemmas.Result.IfErr-weaker, lemmas.Result.IfOk-weaker, lemmas.Result.err_from_is_err_and}
pub use Rattle.std.specs.List.{AllZip}
pub use Rattle.std.specs.Prelude.{Contains, IfOk, option_map, ◌≢◌}
pub use Rattle.check_run.proofs.RunText.{grid_of}
pub use Rattle.gentle_run.specs.{AreNarrow, AreTablesOfPeriod, CertifiedHasHistory, CertifiedIsEnclosed, Checks, FailsAt, IsCovered, IsUncovered, IsVerdict, IsVerdictAt, Passes, StepEncloses}
pub use Rattle.gentle_run.specs.{StepFailsBy, StepsEnclose, StopsAt, VerdictIsOne, at_heads, at_term, at_zones, heads_before, no_budget, no_flows, no_heads}
pub use Rattle.gentle_run.specs.declared.verdict.GentleVerdict.{GentleVerdict}
pub use Rattle.gentle_run.specs.declared.verdict.GentleVerdict.TheVariants.{Certified, Fails, Refused, Steep}
pub use Rattle.gentle_steps.specs.{AreSidesPosed, ConstantsReach, FailsBy, HasSignAt, HaveSigns, HeadsHold, IsFirst, IsFirstShort, IsFirstWeak, IsGentlyListed, IsRefused, IsSteep, ReachesAt}
pub use Rattle.gentle_steps.specs.{StoredWaterFits, at_constant, at_variable, no_high_problem, no_low_problem, no_storage, declared.fault.GentleFault.GentleFault}
pub use Rattle.listing_io.specs.{AreFlows, AreListed, IsListedAt, step_in, declared.listing.ListedStep.ListedStep}
pub use Rattle.model_types.specs.{IsModel, cell_count, constant_head, index_of, is_variable, start_head, times, variable_cells, declared.model.FlowModel.FlowModel}
pub use Rattle.model_types.specs.{declared.time_steps.TimeStep.TimeStep}
pub use Rattle.problem_builder.proofs.{CellFits.starts_enclose, CellFits.starts_fit, Steps.not_refused, Steps.same_problem, Steps.same_refusal, TimesOf.time_of}
pub use Rattle.problem_builder.specs.{AreGridHeads, AreStartHeads, HeadsEnclose, IsActive, IsTimeOf}
pub use Rattle.step_problem.specs.{entries_at, lower_at, number_of, upper_at, Entries.Entries, declared.heads.Bound.Bound, declared.heads.Side.Side, declared.heads.Side.TheVariants.High}
pub use Rattle.step_problem.specs.{declared.heads.Side.TheVariants.Low, declared.place.NoBound.NoBound, declared.place.Place.Place, declared.place.ZoneFlow.ZoneFlow}
pub use Rattle.water_enclosure.specs.{flow_unit, pair_of}
pub use Rattle.water_table.specs.{HasSignsFrom, LieInPairs, LiesInPair, convertible_step, heads_at, listed_heads, with_yield, declared.convertible_layers.ConvertibleLayers.ConvertibleLayers}
pub use Rattle.zone_pairs.specs.{pairs_in}
