pub mod Ratios
pub mod Fractions
pub mod Decimals
pub mod Wholes
pub mod Grammar
pub mod Outcomes
pub use Rattle.decimal_input.specs.Decimals.{IsDec, decimal, differ, down, number, size, up, with_sign}
unfoldable pub use Rattle.decimal_input.specs.Decimals.{scaled_ratio}
pub use Rattle.decimal_input.specs.Fractions.{Fraction, IsOver, as_fraction, fraction_total, opposite, whole}
pub use Rattle.decimal_input.specs.Grammar.{AreDigits, IsExponent, IsInteger, IsPart, IsSign, Spelling, Spells, after_digits, behind_part, digits_after_point}
pub use Rattle.decimal_input.specs.Grammar.{digits_of, exponent_of, integer_of, is_digit, is_mark, is_negative, is_sign, number_from, spelling, spelling_of}
pub use Rattle.decimal_input.specs.Grammar.{whole_number, without_sign}
pub use Rattle.decimal_input.specs.Outcomes.{BoundsHoldOverADenominator, CeilingsKeepOrder, FloorsAndCeilingsEnclose, FloorsKeepOrder, IsCanonical, IsCap}
pub use Rattle.decimal_input.specs.Outcomes.{IsCapped, IsOf, IsTested, IsTrimmed, Names, OneCanonicalForm, OperationsKeepOrder, WordsNameOneThing}
pub use Rattle.decimal_input.specs.Ratios.{Below, Ratio}
unfoldable pub use Rattle.decimal_input.specs.Ratios.{over, ratio}
pub use Rattle.decimal_input.specs.Wholes.{Encloses, EnclosesSigned, IsBetweenSigned, IsBetweenWhole, IsCeiling, IsCeilingPast, IsFloor, IsFloorPast, IsShare}
pub use Rattle.decimal_input.specs.Wholes.{IsSignedCeiling, IsSignedFloor, IsUnits, Passes, Reaches, ceiling, floor, signed_units, small}
unfoldable pub use Rattle.decimal_input.specs.Wholes.{units_of}
