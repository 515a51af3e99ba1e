-- Names that several proofs of this crate cite, of the crates below and of its own definitions, passed on from one place. Declares nothing.
pub use Rattle.std.proofs.Common.{add-one, ap, arith, inl, inr, neg_ℤ, pos, refl, subst, suc, sym, ℕ, ℤ, ◌*◌, ◌+ℤ◌, ◌+◌, ◌-◌, ◌/◌, ◌<◌, ◌^◌, ◌∙◌, ◌≡◌, ◌≤ℤ◌, ◌≤◌}
pub use Rattle.std.proofs.{Math.Nat.div-div-eq-div-mul, Math.Nat.div-lt_iff_lt-mul, Math.Nat.div-mul-le_self, Math.Nat.eq_of_mul-eq-mul_right, Math.Nat.le-div_iff_mul-le, Math.Nat.lt-mul-div-succ}
pub use Rattle.std.proofs.{Math.Nat.lt_of_mul-lt-mul_right, Math.Nat.mul-le-mul, Math.Nat.mul-le-mul_left, Math.Nat.mul-le-mul_right, Math.Nat.pow-suc, lemmas.Bool.cases_lt, lemmas.Bool.cond_above}
pub use Rattle.std.proofs.{lemmas.Bool.cond_below, lemmas.Int.clamps, lemmas.Int.ints, lemmas.Nat.div_below, lemmas.Nat.le-div, lemmas.Nat.pow-add}
pub use Rattle.decimal_input.proofs.{Cross.le_cancel, Cross.lt_cancel, Cross.lt_right, Orders.AtMost-Below, Orders.AtMost-refl, Orders.AtMost-trans, Orders.Below-AtMost, Orders.Same-AtMost}
pub use Rattle.decimal_input.proofs.{Orders.Same-back, Orders.Same-trans, Orders.den_over, Orders.den_plus, Orders.num_over, Orders.num_plus, Orders.plus-AtMost, Orders.product_positive}
pub use Rattle.decimal_input.proofs.{Powers.cross_of, Powers.den_scaled, Powers.num_scaled, Powers.power_within, Powers.scaled-AtMost, Powers.scaled_shift, Powers.scaled_times, Powers.ten_pos}
pub use Rattle.decimal_input.proofs.{Powers.up_down, SameNumbers.Same-both, SameNumbers.plus-comm}
pub use Rattle.decimal_input.specs.{Below, IsCeiling, IsFloor, Ratio, down, over, scaled_ratio, up, Ratios.AtMost, Ratios.Same, Ratios.den, Ratios.plus, Ratios.times}
pub use Rattle.scaled_decimal.specs.{HasSize, IsDown, IsFrom, IsRounded, IsSd, IsUp, IsUpTo, IsWithin, Lower, RoundedIsNearest, RoundingsKeepOrder, Side, UnitsAreWhole, Upper, first_digits, of_units}
pub use Rattle.scaled_decimal.specs.{value, declared.decimal.Sd.Sd}
unfoldable pub use Rattle.scaled_decimal.specs.{in_units, rounded_decimal}
