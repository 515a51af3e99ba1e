-- Names that several proofs of this crate cite, of the crates below and of its own definitions, passed on from one place. Declares nothing.
pub use Rattle.std.proofs.Common.{All, Bool, List, Option, [], ap, arith, cond, false, get_or, inl, inr, length, map, mul-pos, nat_eq, neg_ℤ, not, pos, refl, subst, suc, sym, true, zero, ℕ, ℤ, ◌&&◌}
pub use Rattle.std.proofs.Common.{◌*ℤ◌, ◌*◌, ◌++◌, ◌+ℤ◌, ◌+◌, ◌-ℤ◌, ◌<◌, ◌==◌, ◌^◌, ◌∙◌, ◌∷◌, ◌≡◌, ◌⊎◌}
pub use Rattle.std.proofs.{lemmas.Bool.and_parts, lemmas.Bool.cases_eq, lemmas.Bool.eq-eqb, lemmas.Bool.eqb-true, lemmas.Bool.ne_eqb, lemmas.Int.clamps, lemmas.Int.ints}
pub use Rattle.std.proofs.{lemmas.List.Elements.All-from_get_or, lemmas.List.Elements.All-head, lemmas.List.Elements.All-tail, lemmas.List.Elements.All-weaker}
pub use Rattle.std.specs.List.{AllZip, filter, flat_map}
pub use Rattle.std.specs.Prelude.{slice_index}
pub use Rattle.budget_bounds.specs.{BudgetEncloses, all_terms, bounds_in, exact_part, fixed_term, flow_term, is_term}
unfoldable pub use Rattle.budget_bounds.specs.{exact_singles, exact_term}
pub use Rattle.cell_balance.proofs.{Denominators.Goes, Denominators.Goes-trans, Denominators.fraction_over, Denominators.product, Denominators.some_product, Denominators.step_common}
pub use Rattle.cell_balance.proofs.{Encloses.whole_solves, Encloses.whole_step, Enclosing.none_encloses, Enclosing.plus_encloses, Enclosing.same_over, Over.CellOver, Over.DrainOver, Over.EvapOver}
pub use Rattle.cell_balance.proofs.{Over.FixedOver, Over.FlowOver, Over.LinkOver, Over.RiverOver, Over.drain_over, Over.evap_over, Over.fixed_over, Over.link_over, Over.river_over}
pub use Rattle.cell_balance.proofs.{Scaling.IsOver-greater, Scaling.IsOver-minus, Scaling.IsOver-negated, Scaling.IsOver-none, Scaling.IsOver-plus, Scaling.IsOver-total, Scaling.over_zero}
pub use Rattle.cell_balance.proofs.{Scaling.zero_over, Zips.All-zip, Zips.AllZip-at, Zips.AllZip-length, Zips.WholeCell, Zips.WholeEntry, Zips.WholeLink, Zips.no_whole, Zips.whole_at}
pub use Rattle.cell_balance.proofs.{Zips.whole_balance, Zips.whole_drain, Zips.whole_evap, Zips.whole_fixed, Zips.whole_link, Zips.whole_river}
pub use Rattle.cell_balance.specs.{AreLinked, ExactCell, ExactFixed, ExactFlow, ExactLink, SolvesStep, cell_at, drain_flow, evap_flow, fixed_flow, link_flow, minus, no_cell, no_link, river_flow}
pub use Rattle.cell_balance.specs.{share, sum_below, total_below}
pub use Rattle.decimal_input.specs.{EnclosesSigned, Fraction, IsOver, Ratio, as_fraction, fraction_total, opposite, whole, Fractions.Same, Fractions.den, Fractions.times}
pub use Rattle.exact_budgets.specs.{AllNetTermsLie, CertifiedHaveTheirTimes, IsAlone, LoneCellsHaveTheirFlows, MiddleCell, NetTermsLie, NetTermsLieAt, NetTermsLieInTheOthers, PumpedCell}
pub use Rattle.exact_budgets.specs.{SolutionsBalance, StepsHaveTheirTimes, five, inflow_from, is_constant, lower_by_others, middle_step, net_flow, net_lower, net_upper, others, own_zone, own_zones}
pub use Rattle.exact_budgets.specs.{pumped_budget, pumped_step, upper_by_others}
pub use Rattle.flow_equations.specs.{SolvesAt, SolvesFrom, exact_step, heads_of, variable_heads}
pub use Rattle.step_problem.specs.{total, declared.entry.FixedKind.FixedKind, declared.entry.FixedKind.TheVariants.Constant, declared.entry.FixedKind.TheVariants.General}
pub use Rattle.step_problem.specs.{declared.place.Dir.TheVariants.In, declared.place.Dir.TheVariants.Out, declared.place.Term.Term, declared.place.Term.TheVariants.ConstantHead}
pub use Rattle.step_problem.specs.{declared.place.Term.TheVariants.Drains, declared.place.Term.TheVariants.Et, declared.place.Term.TheVariants.HeadDepBounds, declared.place.Term.TheVariants.Recharge}
pub use Rattle.step_problem.specs.{declared.place.Term.TheVariants.RiverLeakage, declared.place.Term.TheVariants.Storage, declared.place.Term.TheVariants.Wells}
pub use Rattle.zone_flows.specs.{ExactFace, exact_by_kind, exact_fixed, exact_flow, exact_link, is_exact_between, is_lower_zone}
unfoldable pub use Rattle.zone_flows.specs.{exact_cell, exact_faces, exact_from}
