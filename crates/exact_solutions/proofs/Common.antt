-- Names that several proofs of this crate cite, of the crates below and of its own definitions, passed on from one place. Declares nothing.
pub use Rattle.std.proofs.Common.{All, Bool, List, None, Option, Some, [], ap, arith, cond, false, inl, inr, length, map, mul-pos, nat_eq, neg_ℤ, negsuc, pos, refl, subst, suc, sym, true, zero, ℕ, ℤ}
pub use Rattle.std.proofs.Common.{◌*ℤ◌, ◌*◌, ◌+ℤ◌, ◌+◌, ◌-ℤ◌, ◌<ℤ◌, ◌<◌, ◌^◌, ◌∙◌, ◌∷◌, ◌≡◌, ◌≤ℤ◌}
pub use Rattle.std.proofs.Math.IntN.{*ℤ-zero, zero-*ℤ}
pub use Rattle.std.proofs.lemmas.Bool.{cases_Bool, cases_eq, cases_lt, eq-eqb, ne_eqb, true≢false}
pub use Rattle.std.proofs.lemmas.Int.{by_lt_z, clamps, ints}
pub use Rattle.std.proofs.lemmas.List.Elements.{All-cons, All-contains, All-head, All-nil, All-tail}
pub use Rattle.std.specs.{Int.int_max, Int.int_min, List.AllZip}
pub use Rattle.cell_balance.proofs.{Comparison.heads_compare, Comparison.sum_below-tight, Conducting.All-back, Conducting.both_ways, Conducting.closed_cancel, Conducting.none_conduct}
pub use Rattle.cell_balance.proofs.{Conducting.total_positive, Deep.add_mul, Deep.sub_mul, Deep.total-same, Denominators.step_common, Dry.IsMutual, Dry.total-none, Encloses.whole_solves}
pub use Rattle.cell_balance.proofs.{Encloses.whole_step, ExactLaws.cell_over, ExactLaws.closed_whole, ExactLaws.heads_over, ExactLaws.same_length, ExactLaws.whole_falls, Mutual.mutual_whole}
pub use Rattle.cell_balance.proofs.{Over.CellOver, Over.DrainOver, Over.EntryOver, Over.EvapOver, Over.FixedOver, Over.FlowOver, Over.LinkOver, Over.RiverOver, Over.balance_over, Over.deep_over}
pub use Rattle.cell_balance.proofs.{RampFlows.flow_leaves, RampFlows.flows_fall, RampFlows.full_rate_nonneg, Ramps.AreMutual, Ramps.HasSinking, Ramps.HasWholeSolution, Ramps.IsClosed}
pub use Rattle.cell_balance.proofs.{Ramps.IsHeldFromAbove, Ramps.IsHeldFromBelow, Ramps.IsSinking, Ramps.IsSolution, Ramps.Ramp, Ramps.deep, Ramps.extent-between, Ramps.full_rate, Ramps.link_flow}
pub use Rattle.cell_balance.proofs.{Ramps.net_flow, Ramps.open_conductance, Ramps.open_conductance_at, Ramps.ramp_flow, Ramps.rise, Ramps.rise-above_top, Ramps.rise-below_foot, Ramps.rise-between}
pub use Rattle.cell_balance.proofs.{Ramps.rise-no_extent, Ramps.rise-no_top, Ramps.rise_within_extent, Ramps.rise_within_height, Scaling.IsOver-none, Scaling.cancel_le, Scaling.max_times}
pub use Rattle.cell_balance.proofs.{Scaling.min_times, Scaling.none_shared, Scaling.over_zero, Scaling.positive_natural, Sums.carried_gain, Sums.sum-same, Sums.sum-times, Sums.sum_inside-add}
pub use Rattle.cell_balance.proofs.{Sums.sum_inside-zero, Sums.sum_inside_at_most, Sums.sum_nonneg, WholeBalances.a_of, WholeBalances.b_of, WholeBalances.q_of, WholeBalances.ramps_at_cell}
pub use Rattle.cell_balance.proofs.{WholeBalances.ramps_from, WholeBalances.scaled, WholeBalances.scaled_balance, WholeBalances.scaled_entry, Zips.All-zip, Zips.AllZip-at, Zips.AllZip-length}
pub use Rattle.cell_balance.proofs.{Zips.CellWithin, Zips.DrainWithin, Zips.RiverWithin, Zips.WholeCell, Zips.WholeEntry, Zips.WholeLink, Zips.no_whole, Zips.whole_at, Zips.whole_balance}
pub use Rattle.cell_balance.proofs.{Zips.whole_deep, Zips.whole_deep_river, Zips.whole_drain, Zips.whole_evap, Zips.whole_fixed, Zips.whole_full, Zips.whole_link, Zips.whole_river}
pub use Rattle.cell_balance.specs.{AreLinked, CellEncloses, ExactCell, ExactLink, HasLinkBack, SolvesStep, balance, cell_at, deep_flow, no_cell, share, sum_below, sum_inside}
pub use Rattle.decimal_input.proofs.FloorLaws.{cancel_right, last_factors_swap, le-trans, mul_mono_right}
pub use Rattle.decimal_input.specs.{Fraction, IsOver, Ratio, whole, Fractions.Same, Fractions.den}
pub use Rattle.exact_solutions.specs.{AfloatHaveAnother, DrainedHaveAnother, HasNoKnownHead, HasNoneOrMany, HeldHaveASolution, HeldHaveAtMostOne, IsAnchoredAbove, IsHeldAbove, TwoLooseCells}
pub use Rattle.exact_solutions.specs.{WellOfDeepFlow, WellPastDeepFlow, WellWithinDeepFlow, river_and_well, two_cells}
pub use Rattle.step_problem.proofs.{BothSides.le_anti, Falls.loss_falls, Falls.total_mono, Leasts.as_diff, Leasts.diffs, Leasts.mul_assoc, Leasts.mul_mono, Leasts.mul_nonneg, Leasts.neg_mul}
pub use Rattle.step_problem.proofs.{Leasts.same_diff}
pub use Rattle.step_problem.specs.{entries_at, total}
