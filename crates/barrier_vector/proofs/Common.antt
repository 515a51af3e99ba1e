-- Names that several proofs of this crate cite, of the crates below and of its own definitions, passed on from one place. Declares nothing.
pub use Rattle.std.proofs.Common.{All, Bool, Contains, FitsSigned, IsSome, List, None, Option, Some, [], add-one, ap, arith, cond, div-add-mod', drop, false, get_or, get_or-set_other, get_or-set_same}
pub use Rattle.std.proofs.Common.{inl, inr, le-div_iff_mul-le, length, length-append, max, min, mod-lt, neg_ℤ, negsuc, not, pos, refl, rules, set, slice_index, slice_index_or, subst, suc, sum_by, sym}
pub use Rattle.std.proofs.Common.{take, take_at, true, unsigned_abs, zero, ℕ, ℤ, ◌*ℤ◌, ◌*◌, ◌++◌, ◌+ℤ◌, ◌+◌, ◌-ℤ◌, ◌<ℤ◌, ◌<◌, ◌^◌, ◌∙◌, ◌∷◌, ◌≡◌, ◌≤ℤ◌, ◌≤◌, ◌⊎◌}
pub use Rattle.std.proofs.{Math.Nat.le_of_mul-le-mul_left, Math.Nat.mul-le-mul_right, lemmas.Bool.cases_eq, lemmas.Bool.cases_lt, lemmas.Bool.cases_order, lemmas.Bool.eq-eqb, lemmas.Bool.false≢true}
pub use Rattle.std.proofs.{lemmas.Bool.ne_eqb, lemmas.Fn.says_at, lemmas.Int.by_lt_z, lemmas.Int.clamps, lemmas.Int.ints, lemmas.Int.to_z-of_z, lemmas.List.at_drop_more, lemmas.List.drop_all}
pub use Rattle.std.proofs.{lemmas.List.get_or-map, lemmas.List.get_or_append_left, lemmas.List.get_or_default, lemmas.List.get_or_past, lemmas.List.get_or_push, lemmas.List.length-map}
pub use Rattle.std.proofs.{lemmas.List.length-set, lemmas.List.length_push, lemmas.List.take_all, lemmas.List.Elements.All-contains, lemmas.List.Elements.All-head, lemmas.List.Elements.All-tail}
pub use Rattle.std.proofs.{lemmas.List.Elements.Contains-append_left, lemmas.List.Elements.Contains-get_or, lemmas.List.Elements.Contains-push, lemmas.List.Elements.Contains-push_cases}
pub use Rattle.std.proofs.{lemmas.List.Sums.get_or-le-sum_by, lemmas.List.Sums.sum_by_more}
pub use Rattle.std.specs.{Fn.FnReturnsAt, Int.int_div_euclid, Int.int_max, Int.int_min, Int.int_rem_euclid, Int.w128, Int.w64, List.AllZip, Option.is_some, Option.unwrap_or}
pub use Rattle.std.specs.Prelude.{map, replicate}
pub use Rattle.barrier_vector.specs.{AnchorRoot, AreAnchorDrops, AreAnchorPaths, AreBegun, AreBounds, AreComponents, AreCutBounds, AreHeadsOf, AreLabels, AreSelfDrops, BarrierExcludesRefusal}
pub use Rattle.barrier_vector.specs.{BarrierIsCut, BarrierIsOne, CeilingsEnclose, ClampedFits, ContinuesTo, CutBarrierExcludesRefusal, CutBarrierIsOne, CutRefusalIsOne, EnclosesUncut, Fills}
pub use Rattle.barrier_vector.specs.{FloorsEnclose, FloorsHold, FrontLeads, HasEach, HasNoBound, HasStorage, IsAnchorPath, IsAnchoredBound, IsAnchoredOrNone, IsBoundOn, IsBoundOrNone, IsCarriedFloor}
pub use Rattle.barrier_vector.specs.{IsCellCeiling, IsCellFloor, IsCutBarrierOf, IsCutBoundOn, IsCutFault, IsCutFaultOn, IsFaultOn, IsFirst, IsInnerPath, IsLeastWith, IsLevel, IsLongest, IsMissing}
pub use Rattle.barrier_vector.specs.{IsNearest, IsNotForLackOfAnchors, IsOutOfRange, IsOutline, IsParent, IsPath, IsRefused, IsRefusedOn, IsSearched, IsSolution, IsUnanchored, IsWholeSide}
pub use Rattle.barrier_vector.specs.{LeadsToRoot, LeastRoot, LeavesRange, LiesOut, LinkLeads, ListRoot, Names, Nowhere, RefusalIsOne, Refuses, RefusesOn, Spreads, SumsTo, anchor_drop, anchor_on}
pub use Rattle.barrier_vector.specs.{base_on, bound_at, capped_flow, ceil_over, cell_mark, clamp, count_unmarked, cut_on, drain_mark, fixed_mark, flow_sum, greatest, greatest_inside, has_label}
pub use Rattle.barrier_vector.specs.{high_flow, if_some, is_label, lack, longest_at, mark_at, moved_out, need, need_on, no_barrier_on, outer_of, outermost, path_limit, range_on, river_mark, sum_at}
pub use Rattle.barrier_vector.specs.declared.gathered.Total.{Total}
pub use Rattle.cell_balance.proofs.{Deep.Bounds, Deep.add_mul, Deep.bounds_same, Deep.deep_less, Deep.le_trans_z, Deep.same_z, Deep.sub_mul, Deep.total-same, Deep.total_bounds, Deep.total_neg}
pub use Rattle.cell_balance.proofs.{Deep.total_nonneg, Dry.IsMutual, Dry.cut_link, Dry.cut_links, Dry.dry_balance, HeldBelow.carried_not_dry, HeldBelow.cell_within, Sums.sum-add, Sums.sum-same}
pub use Rattle.cell_balance.proofs.{Sums.sum_inside-zero, Sums.term-le-sum, Zips.All-zip, Zips.AllZip-at, Zips.AllZip-length, Zips.CellWithin, Zips.DrainWithin, Zips.FixedWithin, Zips.FlowWithin}
pub use Rattle.cell_balance.proofs.{Zips.IsDry, Zips.LinkWithin, Zips.RiverWithin, Zips.WholeCell, Zips.WholeEntry, Zips.WholeLink, Zips.no_whole, Zips.whole_at, Zips.whole_balance, Zips.whole_deep}
pub use Rattle.cell_balance.proofs.{Zips.whole_drain, Zips.whole_evap, Zips.whole_fixed, Zips.whole_link, Zips.whole_river}
pub use Rattle.cell_balance.specs.{EnclosesStep, ExactCell, IsAnchored, IsCarried, IsComponent, IsHeldBelow, Leads, LeadsTo, LiesBetween, SolvesStep, deep_low, sum_below, sum_inside}
pub use Rattle.decimal_input.proofs.FloorLaws.{mul_mono_right}
pub use Rattle.step_problem.proofs.Leasts.{mul_mono, mul_neg, mul_nonneg}
pub use Rattle.step_problem.specs.{CellFits, DrainFits, Edges, EvapFits, FixedFits, IsHead, IsMagnitudeAtMost, IsProblem, LinkFits, RiverFits, bound_on, deep_river, entries_at, evap_flow, flow_bound}
pub use Rattle.step_problem.specs.{full_rate, head_at, head_limit, least, link_at, no_entries, no_link, number_of, river_flow, total, Entries.Entries, declared.entry.Fixed.Fixed}
pub use Rattle.step_problem.specs.{declared.entry.Link.Link, declared.heads.Side.Side, declared.heads.Side.TheVariants.High, declared.heads.Side.TheVariants.Low, declared.place.NoBound.NoBound}
pub use Rattle.step_problem.specs.{declared.refusal.BoundFault.BoundFault, declared.refusal.BoundFault.TheVariants.Memory}
pub use borrow.Author.Differences.{false_is_lt, le_out, lt_out, true_is_lt}
pub use lib.Signed.{lt_z}
