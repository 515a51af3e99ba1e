-- Fixed-point texts.
use Rattle.std.specs.Prelude.{ℕ, ℤ, pos, negsuc, ◌-◌, ◌/◌, ◌%◌, ◌^◌, List, [], ◌++◌, length, replicate, codes, decimal, nat_abs}

-- a minus sign where there is one
abbrev pub sign : ℤ → List ℕ
sign (pos n) = []
sign (negsuc n) = codes "-"

-- the digits of n, with leading zeros up to this many digits
abbrev pub padded_digits : ℕ → ℕ → List ℕ
padded_digits places n = replicate (places - length (decimal n)) 48 ++ decimal n

-- z * 10 ^ -places, written with a point
abbrev pub fixed_text : ℕ → ℤ → List ℕ
fixed_text places z = sign z ++ decimal (nat_abs z / 10 ^ places) ++ codes "." ++ padded_digits places (nat_abs z % 10 ^ places)
