-- The room between two elevations, by the floor of the upper one and the ceiling of the lower one in units of 10^-18.
use Rattle.std.specs.Prelude.{ℕ, ◌*◌, ◌^◌, ℤ, pos, ◌+ℤ◌, Bool, false, nat_lt, int_le, if◌then◌else◌, Option, Some, None, nat_le, negsuc, not, ◌&&◌, ◌==◌}
use Rattle.std.specs.Prelude.{unsigned_abs}
use Rattle.decimal_input.specs.{declared.dec.Dec.Dec, size, Ratio, floor, ceiling, Ratios.den}
use Rattle.std.specs.Ordering.{int_eq}
use Rattle.std.proofs.Math.Bool.{beq}

-- at least 10 ^ 6 units, and neither number too large
abbrev pub has_room : Option ℤ → Option ℤ → Bool
has_room None lower = false
has_room (Some f) None = false
has_room (Some f) (Some c) = int_le (c +ℤ pos 1000000) f

-- at least 10 ^ -12 length units
unfoldable pub is_thick : Dec → Dec → Bool
is_thick top bottom = has_room (floor top 18) (ceiling bottom 18)

-- Magnitudes of numbers of the input against limits.
-- at most k
unfoldable pub is_at_most : ℕ → Ratio → Bool
is_at_most k f = nat_le f.num (k * den f)

-- at least 10 ^ -s
unfoldable pub is_at_least : ℕ → Ratio → Bool
is_at_least s f = nat_le (den f) (f.num * 10 ^ s)

-- a head or an elevation: from -4000000000 to 4000000000 length units
abbrev pub is_head : Dec → Bool
is_head d = is_at_most 4000000000 (size d)

-- Signs of numbers of the input, whether two are the same, and counts.
-- above 0
abbrev pub is_positive : Dec → Bool
is_positive d = not d.neg && nat_lt 0 d.digits

-- 1
abbrev pub is_one : Dec → Bool
is_one d = not d.neg && (d.digits == 1 && (unsigned_abs d.exp == 0))

-- the same number, of two in canonical form: the same digits, exponent and sign
abbrev pub is_same_number : Dec → Dec → Bool
is_same_number a b = (a.digits == b.digits) && (int_eq a.exp b.exp && beq a.neg b.neg)

-- a count from 1 to a limit
abbrev pub within : ℤ → ℕ → Option ℕ
within (pos n) limit = if nat_lt 0 n && nat_le n limit then Some n else None
within (negsuc n) limit = None
