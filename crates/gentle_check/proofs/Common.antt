-- Names that several proofs of this crate cite, of the crates below and of its own definitions, passed on from one place. Declares nothing.
pub use Rattle.std.proofs.Common.{All, List, [], ap, arith, get_or, inl, inr, length, neg_ℤ, pos, refl, subst, suc, sym, true, zero, ℕ, ℤ, ◌*ℤ◌, ◌+ℤ◌, ◌+◌, ◌-◌, ◌<◌, ◌^◌, ◌∙◌, ◌∷◌, ◌≡◌, ◌≤ℤ◌}
pub use Rattle.std.proofs.lemmas.Int.{ints}
pub use Rattle.cell_balance.proofs.Enclosing.{plus_encloses, total_encloses}
pub use Rattle.cell_balance.specs.{CellEncloses, DrainEncloses, EnclosesStep, EvapEncloses, ExactCell, ExactLink, FixedEncloses, FlowEncloses, LinkEncloses, RiverEncloses, cell_at, drain_flow}
pub use Rattle.cell_balance.specs.{evap_flow, fixed_flow, link_flow, no_cell, river_flow, share}
pub use Rattle.decimal_input.specs.{EnclosesSigned, Fraction, as_fraction, opposite, Fractions.AtMost, Fractions.den, Fractions.plus}
pub use Rattle.gentle_check.specs.{BalancesEnclose, SignsAreShown, one_head}
pub use Rattle.model_types.proofs.Members.{All-In, In, In-All}
pub use Rattle.model_types.specs.{IsModel, is_variable, variable_cells}
pub use Rattle.step_problem.specs.{balance, entries_at, flow_bound, no_entries, Entries.Entries, declared.heads.Side.TheVariants.High, declared.heads.Side.TheVariants.Low}
pub use Rattle.water_table.specs.{GainsAtLeast, LosesAtLeast, convertible_cell, convertible_step, listed_heads, storage_flow, variable_cell, water_balance}
