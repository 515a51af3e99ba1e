-- Names that several proofs of this crate cite, of the crates below and of its own definitions, passed on from one place. Declares nothing.
pub use Rattle.std.proofs.Common.{All, Bool, List, [], ap, arith, cond, false, inl, inr, length, mul-pos, nat_eq, neg_ℤ, negsuc, pos, refl, subst, suc, sym, true, zero, ℕ, ℤ, ◌*ℤ◌, ◌*◌, ◌++◌, ◌+ℤ◌}
pub use Rattle.std.proofs.Common.{◌+◌, ◌-ℤ◌, ◌<ℤ◌, ◌<◌, ◌∙◌, ◌∷◌, ◌≡◌, ◌≤ℤ◌, ◌≤◌}
pub use Rattle.std.proofs.{lemmas.Int.by_lt_z, lemmas.Int.ints, lemmas.List.Elements.All-append, lemmas.List.Elements.All-cons, lemmas.List.Elements.All-nil}
pub use Rattle.std.specs.List.{AllZip}
pub use Rattle.std.specs.Prelude.{slice_index_or}
pub use Rattle.cell_balance.proofs.Ramps.{AreMutual, link_flow, ramp_flow}
pub use Rattle.cell_balance.proofs.Scaling.{IsOver-none, IsOver-plus, IsOver-signed, IsOver-total, cancel_le, positive_natural, positive_times, zero_over}
pub use Rattle.cell_balance.proofs.Zips.{All-zip, AllZip-compose, AllZip-right, WholeCell, WholeEntry, WholeLink, whole_at}
pub use Rattle.cell_balance.specs.{AreLinked, ExactCell, ExactFixed, ExactFlow, ExactLink, ExactRiver, HasLinkBack, SolvesStep, balance, cell_at, drain_flow, evap_flow, minus, no_link, river_flow}
pub use Rattle.cell_balance.specs.{share, sum_below}
pub use Rattle.decimal_input.proofs.FloorLaws.{AtMost-trans, Same-AtMost, Same-sym, Same-trans, le-antisym, le-of, mul_mono_right, neg_times}
pub use Rattle.decimal_input.specs.{Fraction, IsOver, Ratio, as_fraction, fraction_total, over, size, whole, Fractions.AtMost, Fractions.Same, Fractions.den, Fractions.plus, Ratios.times}
unfoldable pub use Rattle.decimal_input.specs.{ratio}
pub use Rattle.plan_conductances.specs.{ArePlansOfAWell, AreStepsOfAWell, BoundsFromAbove, BoundsFromBelow, ConductancesGrow, ConductsAtMost, DrawdownFalls, HasAtMost, IsCellOfFlow, IsMetByExample}
pub use Rattle.plan_conductances.specs.{IsOfOneWell, LinkConductsAtMost, WellLiesBetween, at_well, base_step, first_cell, known_conductance, less_step, more_step, planned_step, second_cell}
pub use Rattle.plan_conductances.specs.{whole_conductance}
pub use Rattle.plan_difference.proofs.Sames.{nothing_after, same_is_over, same_self, sums_same, total_of_both}
pub use Rattle.plan_difference.specs.{AreFlowsApart, AreInOneWeather, IsDifferenceCell, IsDifferenceStep, IsRampBranch, known_differences}
pub use Rattle.step_problem.proofs.Leasts.{as_diff, diffs, mul_assoc, mul_nonneg, same_diff}
pub use Rattle.step_problem.specs.{head_at, total}
