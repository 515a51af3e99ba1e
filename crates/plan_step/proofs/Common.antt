-- Names that several proofs of this crate cite, of the crates below and of its own definitions, passed on from one place. Declares nothing.
pub use Rattle.std.proofs.Common.{All, Bool, Contains, List, [], ap, arith, cond, drop, false, get_or, inl, inr, length, map, min, mul-pos, neg_ℤ, not, pos, refl, subst, suc, sym, take, true, zero, ℕ}
pub use Rattle.std.proofs.Common.{ℤ, ◌*ℤ◌, ◌*◌, ◌++◌, ◌+ℤ◌, ◌+◌, ◌-ℤ◌, ◌-◌, ◌/◌, ◌<ℤ◌, ◌<◌, ◌^◌, ◌∙◌, ◌∷◌, ◌≡◌, ◌≤ℤ◌, ◌≤◌}
pub use Rattle.std.proofs.{Math.Nat.le_of_mul-le-mul_right, Math.Nat.mul-le-mul_left, Math.Nat.mul-le-mul_right, lemmas.Bool.cases_lt, lemmas.Int.by_lt_z, lemmas.Int.clamps, lemmas.Int.ints}
pub use Rattle.std.specs.{Int.div_ceil, Int.int_max, Int.int_min, List.AllZip, List.sum_by}
pub use Rattle.cell_balance.proofs.{Deep.add_mul, Deep.sub_mul, Denominators.Goes-first, Denominators.Goes-second, Denominators.fraction_over, Scaling.IsOver-minus, Scaling.IsOver-none}
pub use Rattle.cell_balance.proofs.{Scaling.positive_natural, Zips.AllZip-at, Zips.AllZip-length, Zips.whole_drain, Zips.whole_evap, Zips.whole_river}
pub use Rattle.cell_balance.specs.{CellEncloses, DrainEncloses, EvapEncloses, ExactCell, ExactFixed, ExactFlow, FixedEncloses, FlowEncloses, RiverEncloses, cell_at, drain_flow, evap_flow, minus}
pub use Rattle.cell_balance.specs.{no_cell, river_flow, share}
pub use Rattle.decimal_input.proofs.FloorLaws.{Same-sym, Same-trans, mul_mono_right, negated_enclosed}
pub use Rattle.decimal_input.specs.{Encloses, EnclosesSigned, Fraction, IsOver, Ratio, fraction_total, opposite, whole, Fractions.Same, Fractions.den}
pub use Rattle.plan_difference.proofs.Shares.{IsPart, not_negative}
pub use Rattle.plan_difference.specs.{AreFlowsApart, IsDifferenceCell, IsDifferenceStep, IsRampBranch, known_difference, known_differences}
pub use Rattle.plan_step.specs.{DifferencesHaveAStep, DrainsAreEnclosed, EvapsAreEnclosed, IsApartBy, IsDifferenceProblem, IsPlannedCell, RiversAreEnclosed, SolutionsBoundPlans, acting, are_turned}
pub use Rattle.plan_step.specs.{bound_at, branch, difference_cell, divided, drain_branch, evap_branch, known_branch, known_high, known_low, river_branch, turned, turned_flow}
unfoldable pub use Rattle.plan_step.specs.{acting_between}
pub use Rattle.step_problem.proofs.Leasts.{mul_neg, mul_sub}
pub use Rattle.step_problem.specs.{CellFits, DrainFits, EvapFits, FixedFits, IsHead, IsProblem, LinksFit, RiverFits, cell_limit, conductance_of, entries_at, flow_magnitude, link_at, magnitude}
pub use Rattle.step_problem.specs.{no_bound, no_entries, Entries.Entries, declared.entry.Fixed.Fixed, declared.entry.FixedKind.FixedKind, declared.entry.Flow.Flow, declared.heads.Bound.Bound}
pub use Rattle.step_problem.specs.{declared.heads.Side.Side, declared.heads.Side.TheVariants.High, declared.heads.Side.TheVariants.Low}
