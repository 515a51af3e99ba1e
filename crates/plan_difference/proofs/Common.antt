-- Names that several proofs of this crate cite, of the crates below and of its own definitions, passed on from one place. Declares nothing.
pub use Rattle.std.proofs.Common.{All, Bool, Contains, List, None, Option, Some, [], ap, arith, cond, false, get_or, inl, inr, length, mul-pos, nat_eq, neg_ℤ, negsuc, pos, refl, subst, suc, sym, true}
pub use Rattle.std.proofs.Common.{zero, ℕ, ℤ, ◌*ℤ◌, ◌*◌, ◌++◌, ◌+ℤ◌, ◌-ℤ◌, ◌-◌, ◌<◌, ◌^◌, ◌∙◌, ◌∷◌, ◌≡◌, ◌≤ℤ◌, ◌≤◌}
pub use Rattle.std.proofs.{Math.IntN.zero-*ℤ, Math.Nat.le_of_mul-le-mul_right, Math.Nat.mul-le-mul_left, Math.Nat.mul-le-mul_right, lemmas.Int.by_lt_z, lemmas.Int.clamps, lemmas.Int.ints}
pub use Rattle.std.proofs.{lemmas.List.Elements.All-cons, lemmas.List.Elements.All-head, lemmas.List.Elements.All-nil, lemmas.List.Elements.All-tail}
pub use Rattle.std.specs.List.{AllZip}
pub use Rattle.cell_balance.proofs.{Deep.sub_mul, Denominators.Goes, Denominators.Goes-first, Denominators.Goes-second, Denominators.fraction_over, Denominators.left_goes, Denominators.right_goes}
pub use Rattle.cell_balance.proofs.{Enclosing.same_over, ExactLaws.heads_over, Ramps.Ramp, Ramps.net_flow, Ramps.ramp_flow, Ramps.rise, Ramps.rise_grows, Scaling.IsOver-minus, Scaling.IsOver-none}
pub use Rattle.cell_balance.proofs.{Scaling.IsOver-plus, Scaling.IsOver-signed, Scaling.IsOver-times, Scaling.over_zero, Scaling.positive_natural}
pub use Rattle.cell_balance.specs.{CellEncloses, ExactCell, ExactDrain, ExactEvap, ExactFixed, ExactFlow, ExactLink, ExactRiver, FixedEncloses, HasEqualEnds, HasLinkBack, SolvesStep, balance, cell_at}
pub use Rattle.cell_balance.specs.{drain_flow, evap_flow, fixed_flow, link_flow, minus, no_cell, one, river_flow, share}
pub use Rattle.decimal_input.proofs.FloorLaws.{Same-sym, Same-trans, cancel_right, last_factors_swap, le-antisym, le-of}
pub use Rattle.decimal_input.specs.{Encloses, Fraction, IsOver, Ratio, as_fraction, fraction_total, whole, Fractions.Same, Fractions.den, Fractions.plus, Fractions.times, Ratios.AtMost}
pub use Rattle.plan_difference.specs.{AreFlowsApart, AreInOneWeather, AreStepsInOneWeather, BoundsDifferences, BoundsDifferencesOf, DifferenceSolvesIt, DifferenceStepExists, DifferencesLieAbove}
pub use Rattle.plan_difference.specs.{DifferencesLieBelow, EnclosesDifferences, IsDifferenceCell, IsDifferenceStep, IsMetByExample, IsOpenBranch, IsRampBranch, RampsShare, SolutionsBoundDifferences}
pub use Rattle.plan_difference.specs.{added, base_heads, base_step, greatest_balance, half, known_difference, known_differences, least_balance, least_of_ramp, most_of_ramp, planned_heads}
pub use Rattle.plan_difference.specs.{planned_step, problem_of_differences, step_of_differences}
pub use Rattle.step_problem.proofs.Leasts.{as_diff, diffs, mul_add, mul_assoc, mul_mono, mul_neg, same_diff}
pub use Rattle.step_problem.specs.{entries_at, least, most, no_entries, total}
pub use Rattle.step_problem.specs.declared.entry.FixedKind.TheVariants.{Constant, General, Storage}
