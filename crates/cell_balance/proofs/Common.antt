-- Names that several proofs of this crate cite, of the crates below and of its own definitions, passed on from one place. Declares nothing.
pub use Rattle.std.proofs.Common.{All, Bool, Contains, List, None, Option, Some, [], ap, arith, cond, false, get_or, inl, inr, int_lt, length, map, mul-pos, nat_eq, neg_ℤ, negsuc, pos, refl, subst}
pub use Rattle.std.proofs.Common.{suc, sym, true, unsigned_abs, zero, ℕ, ℤ, ◌*ℤ◌, ◌*◌, ◌++◌, ◌+ℤ◌, ◌+◌, ◌-ℤ◌, ◌-◌, ◌<ℤ◌, ◌<◌, ◌^◌, ◌∙◌, ◌∷◌, ◌≡◌, ◌≤ℤ◌, ◌≤◌, ◌⊎◌}
pub use Rattle.std.proofs.Math.IntN.{*ℤ-zero, *ℤ_comm, zero-*ℤ}
pub use Rattle.std.proofs.Math.Nat.{eq_of_mul-eq-mul_right, le_of_mul-le-mul_right, mul-le-mul, mul-le-mul_right, mul_comm}
pub use Rattle.std.proofs.lemmas.Bool.{cases_eq, cases_lt, eq-eqb, ne_eqb, true≢false}
pub use Rattle.std.proofs.lemmas.Int.{by_lt_z, clamps, ints}
pub use Rattle.std.proofs.lemmas.List.Elements.{All-cons, All-contains, All-from_get_or, All-get_or, All-head, All-nil, All-tail, Contains-get_or}
pub use Rattle.std.specs.{Int.int_max, Int.int_min, List.AllZip, List.filter}
pub use Rattle.cell_balance.specs.{AreLinked, BalanceFalls, BalanceRises, BoundsHold, CellEncloses, Compares, DrainEncloses, DrainLaws, DryLaw, EnclosesStep, EvapEncloses, EvapLaws, ExactCell}
pub use Rattle.cell_balance.specs.{ExactDrain, ExactEvap, ExactFixed, ExactFlow, ExactLink, ExactRiver, FixedEncloses, FixedLaws, FlowEncloses, FlowsAreRight, HasEqualEnds, HasLinkBack, IsBelow}
pub use Rattle.cell_balance.specs.{IsCarried, IsClosed, IsComparable, IsComponent, IsHeldBelow, Leads, LeadsTo, LiesBelow, LiesBetween, LinkEncloses, LinksCancel, RiverEncloses, RiverLaws, SolvesStep}
pub use Rattle.cell_balance.specs.{balance, cell_at, deep_flow, deep_low, drain_flow, evap_flow, example_barrier, example_heads, example_highs, example_lows, example_problem, example_step, first_cell}
pub use Rattle.cell_balance.specs.{first_entries, fixed_flow, full_rate, greater, lesser, link_flow, minus, no_cell, no_link, one, over_difference, river_flow, second_cell, second_entries, share}
pub use Rattle.cell_balance.specs.{sum_below, sum_inside, third_cell, third_entries, total_below, total_inside}
pub use Rattle.decimal_input.proofs.FloorLaws.{cancel_right, last_factors_swap, le-add, le-antisym, le-of, mul_mono_right, negated_enclosed}
pub use Rattle.decimal_input.specs.{Encloses, EnclosesSigned, Fraction, IsBetweenSigned, IsBetweenWhole, IsOver, IsShare, Ratio, as_fraction, fraction_total, opposite, whole}
pub use Rattle.decimal_input.specs.Fractions.{AtMost, Same, den, plus, times}
pub use Rattle.step_problem.proofs.Falls.{loss_falls, total_mono, total_mono_all}
pub use Rattle.step_problem.proofs.Leasts.{as_diff, diffs, least_times, most_times, mul_add, mul_assoc, mul_le, mul_mono, mul_neg, mul_nonneg, mul_sub, neg_mul, same_diff}
pub use Rattle.step_problem.specs.{CellFits, DrainFits, EvapFits, FixedFits, IsCertificate, IsHead, IsProblem, LinkFits, LinksFit, RiverFits, bound_on, branch_flow, deep_river, entries_at, flow_bound}
pub use Rattle.step_problem.specs.{head_at, head_limit, least, lower_balance, most, no_entries, total, upper_balance, Entries.Entries, declared.entry.Drain.Drain, declared.entry.Evap.Evap}
pub use Rattle.step_problem.specs.{declared.entry.Fixed.Fixed, declared.entry.FixedKind.TheVariants.Constant, declared.entry.FixedKind.TheVariants.Storage, declared.entry.Flow.Flow}
pub use Rattle.step_problem.specs.{declared.entry.Link.Link, declared.entry.River.River, declared.heads.Side.Side, declared.heads.Side.TheVariants.High, declared.heads.Side.TheVariants.Low}
