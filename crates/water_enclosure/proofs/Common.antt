-- Names that several proofs of this crate cite, of the crates below and of its own definitions, passed on from one place. Declares nothing.
pub use Rattle.std.proofs.Common.{All, Bool, List, [], ap, arith, cond, false, get_or, inl, inr, length, map, mul-pos, neg_ℤ, negsuc, pos, refl, subst, suc, sym, true, zero, ℕ, ℤ, ◌*ℤ◌, ◌*◌, ◌++◌}
pub use Rattle.std.proofs.Common.{◌+ℤ◌, ◌+◌, ◌-ℤ◌, ◌-◌, ◌<ℤ◌, ◌<◌, ◌∙◌, ◌∷◌, ◌≡◌, ◌≤ℤ◌, ◌≤◌, ◌⊎◌}
pub use Rattle.std.proofs.{Math.Nat.mod-le, Math.Nat.mul-le-mul_left, lemmas.Bool.and_parts, lemmas.Bool.cases_Bool, lemmas.Bool.cases_eq, lemmas.Bool.cases_lt, lemmas.Bool.cond-false}
pub use Rattle.std.proofs.{lemmas.Bool.cond-true, lemmas.Bool.eq-eqb, lemmas.Bool.ne_eqb, lemmas.Bool.or_left, lemmas.Bool.or_right, lemmas.Bool.true≢false, lemmas.Int.by_lt_z, lemmas.Int.clamps}
pub use Rattle.std.proofs.{lemmas.Int.ints, lemmas.List.get_or-map, lemmas.List.get_or_past, lemmas.List.length-map, lemmas.List.Elements.All-from_get_or, lemmas.List.Elements.All-get_or}
pub use Rattle.std.proofs.{lemmas.List.Elements.All-head, lemmas.List.Elements.All-tail}
pub use Rattle.std.specs.List.{AllZip}
pub use Rattle.std.specs.Prelude.{int_lt, nat_eq, nat_lt, not, unsigned_abs, ◌&&◌, ◌==◌, ◌^◌, ◌||◌}
pub use Rattle.cell_balance.proofs.{Denominators.Goes, Denominators.Goes-first, Denominators.Goes-second, Denominators.Goes-trans, Denominators.step_common, Dry.IsMutual, Dry.by_weight, Dry.weight}
pub use Rattle.cell_balance.proofs.{Enclosing.below_over, Enclosing.le_over, Enclosing.over_le, Over.CellOver, Over.DrainOver, Over.EvapOver, Over.FixedOver, Over.FlowOver, Over.LinkOver}
pub use Rattle.cell_balance.proofs.{Over.RiverOver, Over.balance_over, Over.drain_over, Over.evap_over, Over.fixed_over, Over.river_over, Scaling.IsOver-lesser, Scaling.IsOver-minus}
pub use Rattle.cell_balance.proofs.{Scaling.IsOver-plus, Scaling.IsOver-signed, Scaling.IsOver-times, Scaling.IsOver-total, Zips.AllZip-at, Zips.AllZip-length, Zips.WholeCell, Zips.WholeEntry}
pub use Rattle.cell_balance.proofs.{Zips.WholeLink, Zips.no_whole, Zips.whole_at, Zips.whole_balance, Zips.whole_drain, Zips.whole_evap, Zips.whole_fixed, Zips.whole_link, Zips.whole_river}
pub use Rattle.cell_balance.specs.{AreLinked, ExactCell, ExactDrain, ExactEvap, ExactFixed, ExactLink, ExactRiver, HasLinkBack, IsBelow, drain_flow, evap_flow, fixed_flow, lesser, minus, no_cell}
pub use Rattle.cell_balance.specs.{no_link, river_flow, share, sum_below}
pub use Rattle.decimal_input.proofs.{FloorLaws.AtMost-trans, FloorLaws.neg_times, SameNumbers.over-positive, SameNumbers.times-positive}
pub use Rattle.decimal_input.specs.{Fraction, IsOver, IsShare, Ratio, as_fraction, fraction_total, number, opposite, size, Fractions.AtMost, Fractions.plus, Fractions.times, Ratios.Same, Ratios.den}
unfoldable pub use Rattle.decimal_input.specs.{ratio}
pub use Rattle.flow_equations.proofs.Downwards.{IsValue, own_value, size_positive, value_one, value_over, value_plus, value_times, value_two}
pub use Rattle.flow_equations.proofs.GivenAtSteps.{over_multiple}
pub use Rattle.model_types.proofs.Leads.{IsFaceOf, before_le, end_within, ends_ascend, face_back, passing_are, passing_have, turned}
pub use Rattle.model_types.proofs.Members.{All-In, Contains-In, In, In-All, In-map, Ordered, Ordered-at, map-In}
pub use Rattle.model_types.specs.{HasSize, IsModel, IsThick, bed_thickness, bottom_at, cell_count, constant_faces, dec_at, delc_at, delr_at, gap, hani_at, has_bed, hk_at, index_of, int_at, is_active}
pub use Rattle.model_types.specs.{is_constant, is_ratio, is_variable, layer_size, lowest, span, start_head, stride, thickness, top_at, two, variable_cells, variable_faces, vertical_conductivity}
pub use Rattle.model_types.specs.{vka_at, vkcb_at, declared.face.Axis.Axis, declared.face.Axis.TheVariants.Column, declared.face.Axis.TheVariants.Row, declared.face.Axis.TheVariants.Vertical}
pub use Rattle.model_types.specs.{declared.face.Face.Face, declared.model.FlowModel.FlowModel, declared.time_steps.TimeStep.TimeStep}
pub use Rattle.pair_flows.specs.{AreComparable, CellFlows, gain_from_first}
pub use Rattle.step_problem.proofs.Leasts.{mul_mono, mul_neg}
pub use Rattle.water_enclosure.specs.{FlowsLieAt, FlowsLieFrom, GreaterBalancesLieLower, HasOneGentleHead, OwnFlowsAreAtMost, SignsEncloseFlows, SignsEncloseHistories}
pub use Rattle.water_table.proofs.Orders.{AtMost-of, among, below_then_at_most, common_denominator_exists, less_is_below, plus_rises}
pub use Rattle.water_table.specs.{FallsGently, FallsWithin, GainsAtLeast, HasSignsAt, HasSignsFrom, IsFull, IsGentle, IsWithin, LieInPairs, LiesInPair, ListedPair, LosesAtLeast, NearlySolvesAt}
pub use Rattle.water_table.specs.{NearlySolvesFrom, branch, conductance_at, constant_branch, convertible_cell, convertible_step, heads_at, is_convertible, listed_heads, narrow_pair, pumped_layers}
pub use Rattle.water_table.specs.{pumped_model, variable_branch, variable_cell, water_balance, declared.convertible_layers.ConvertibleLayers.ConvertibleLayers}
