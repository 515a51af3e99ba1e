-- Names that several proofs of this crate cite, of the crates below and of its own definitions, passed on from one place. Declares nothing.
pub use Rattle.std.proofs.Common.{Bool, ap, arith, cond, false, inl, inr, int_lt, neg_ℤ, pos, refl, suc, sym, true, zero, ℕ, ℤ, ◌*◌, ◌+ℤ◌, ◌+◌, ◌-ℤ◌, ◌-◌, ◌<ℤ◌, ◌<◌, ◌∙◌, ◌≡◌, ◌≤ℤ◌, ◌≤◌, ◌⊎◌}
pub use Rattle.std.proofs.lemmas.Bool.{cases_Bool, cases_eq, cases_lt}
pub use Rattle.pair_flows.specs.{CellFlows, DownwardLaw, GentleLaw, GentleOrderLaw, HasTwoSolutions, LowerHeadLaw, OrderLaw, SignsEnclose, UpperHeadLaw, UpwardLaw, balance, gain_from_first}
pub use Rattle.pair_flows.specs.{half_conductance, horizontal_flow, saturated_thickness}
