-- Names that several proofs of this crate cite, of the crates below and of its own definitions, passed on from one place. Declares nothing.
pub use Rattle.std.proofs.Common.{Bool, Err, FitsSigned, IfNone, IfOk, IfSome, List, MatchOption, None, Ok, Option, Result, Some, [], add-one, ap, arith, drop, false, get_or, inl, inr, length, min}
pub use Rattle.std.proofs.Common.{mul-pos, nat_le, neg_ℤ, negsuc, not, pos, refl, subst, suc, sym, take, true, zero, ℕ, ℤ, ◌%◌, ◌&&◌, ◌*ℤ◌, ◌*◌, ◌++◌, ◌+ℤ◌, ◌+◌, ◌-ℤ◌, ◌-◌, ◌/◌, ◌<ℤ◌, ◌<◌, ◌==◌, ◌^◌}
pub use Rattle.std.proofs.Common.{◌↔◌, ◌∙◌, ◌∷◌, ◌≡◌, ◌≤ℤ◌, ◌≤◌, ◌⊎◌}
pub use Rattle.std.proofs.{Math.Nat.div-le_self, Math.Nat.div-lt_iff_lt-mul, Math.Nat.div-mul-le_self, Math.Nat.eq_of_mul-eq-mul_right, Math.Nat.le-div_iff_mul-le, Math.Nat.le_of_mul-le-mul_right}
pub use Rattle.std.proofs.{Math.Nat.lt-mul-div-succ, Math.Nat.mul-le-mul, Math.Nat.mul-le-mul_left, Math.Nat.mul-le-mul_right, Math.Nat.pow-suc, lemmas.Bool.and_parts, lemmas.Bool.cases_Bool}
pub use Rattle.std.proofs.{lemmas.Bool.cases_lt, lemmas.Bool.eq-eqb, lemmas.Bool.eqb-true, lemmas.Bool.le-leb, lemmas.Bool.leb-true, lemmas.Bool.lt-leb, lemmas.Bool.lt-ltb}
pub use Rattle.std.proofs.{lemmas.Bool.Decides.leb_tells, lemmas.Bool.Decides.nat_tests, lemmas.Int.by_lt_z, lemmas.Int.ints, lemmas.Int.to_z-of_z, lemmas.List.at_drop_all, lemmas.List.at_drop_more}
pub use Rattle.std.proofs.{lemmas.List.get_or-take, lemmas.List.take-append-drop, lemmas.Nat.pow-add}
pub use Rattle.std.specs.Int.{w128}
pub use Rattle.decimal_input.specs.{AreDigits, Below, EnclosesSigned, Fraction, IsBetweenSigned, IsCanonical, IsCap, IsCapped, IsCeiling, IsCeilingPast, IsDec, IsExponent, IsFloor, IsFloorPast}
pub use Rattle.decimal_input.specs.{IsInteger, IsOf, IsOver, IsPart, IsSign, IsSignedCeiling, IsSignedFloor, IsTested, IsTrimmed, IsUnits, Names, Passes, Ratio, Reaches, Spelling, Spells}
pub use Rattle.decimal_input.specs.{after_digits, behind_part, ceiling, decimal, differ, digits_after_point, digits_of, down, exponent_of, floor, integer_of, is_digit, is_mark, is_negative, is_sign}
pub use Rattle.decimal_input.specs.{number, number_from, opposite, signed_units, size, small, spelling, spelling_of, up, whole_number, with_sign, without_sign, Ratios.AtMost, Ratios.Same, Ratios.den}
pub use Rattle.decimal_input.specs.{declared.dec.Dec.Dec, declared.dec.NumFault.NumFault, declared.dec.NumFault.TheVariants.BadNumber}
unfoldable pub use Rattle.decimal_input.specs.{over, ratio, scaled_ratio, units_of, Ratios.plus, Ratios.times}
pub use borrow.Author.Differences.{le_out, product_is, same_in}
