-- What the arithmetic on spans keeps.
use Rattle.std.specs.Prelude.{◌≡◌, ℕ, max, unsigned_abs}
use Rattle.decimal_input.specs.Ratios.{AtMost}
use Rattle.scaled_decimal.specs.{IsSd, Lower, Upper, value}
use Rattle.conductance_bounds.specs.{declared.span.Span.Span, Terms.Term, Terms.bound}

-- two decimals in order
pub record IsOrdered (x : Span) : Type 0 where
  pub low : IsSd x.lo
  pub high : IsSd x.hi
  pub order : AtMost (value x.lo) (value x.hi)

-- the greater magnitude of the two exponents
unfoldable pub reach : Span → ℕ
reach x = max (unsigned_abs x.lo.e) (unsigned_abs x.hi.e)

-- both bounds of a formula
pub record AreBounds (t : Term) (x : Span) : Type 0 where
  pub lower : x.lo ≡ bound t Lower
  pub upper : x.hi ≡ bound t Upper
