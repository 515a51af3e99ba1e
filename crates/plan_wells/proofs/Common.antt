-- Names that several proofs of this crate cite, of the crates below and of its own definitions, passed on from one place. Declares nothing.
pub use Rattle.std.proofs.Common.{All, Bool, Err, List, Ok, Result, [], ap, arith, get_or, inl, inr, le-leb, leb-true, length, map, nat_le, refl, replicate, set, subst, suc, sym, take, true, zero, ℕ}
pub use Rattle.std.proofs.Common.{◌++◌, ◌-◌, ◌<◌, ◌∙◌, ◌∷◌, ◌≡◌, ◌≤◌}
pub use Rattle.std.proofs.lemmas.List.{get_or_default, length-append, length-map, length-replicate}
pub use Rattle.std.proofs.lemmas.List.Elements.{All-append, All-cons, All-head, All-map, All-nil, All-replicate, All-tail, All-weaker, length_all_zip}
pub use Rattle.std.proofs.lemmas.List.Sums.{AllPass-from_list_all, list_all-from_AllPass, sum_by-cons}
pub use Rattle.std.specs.List.{AllZip, flat_map, sum_by}
pub use Rattle.model_types.specs.{HasSize, IsBedChecked, IsCellValid, IsEntryValid, IsEvapValid, IsPeriod, IsTimed, cell_count, evap_sources, most_entries, no_number, no_period, period_at}
pub use Rattle.model_types.specs.{declared.entry.Entry.Entry, declared.entry.Entry.TheVariants.Drain, declared.entry.Entry.TheVariants.General, declared.entry.Entry.TheVariants.River}
pub use Rattle.model_types.specs.{declared.entry.Entry.TheVariants.Well, declared.model.FlowModel.FlowModel, declared.period.Period.Period}
pub use Rattle.plan_wells.specs.{AlikeHaveOnePlan, IsPlan, IsWell, PlainAreFew, PlannedAreAlike, PlannedAreValid, PlannedLieBetween, are_few, plan_of, with_plan, with_wells}
pub use Rattle.problem_hull.specs.{zip_with}
