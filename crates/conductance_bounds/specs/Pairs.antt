-- Two whole bounds of a formula, and of a number of the input.
use Rattle.std.specs.Prelude.{ℕ, ◌^◌, ℤ, pos, neg_ℤ, Bool, true, false, Option, Some, None, nat_lt, if◌then◌else◌}
use Rattle.std.specs.Option.{option_map, unwrap_or}
use Rattle.decimal_input.specs.{declared.dec.Dec.Dec, size, with_sign, Ratio, Fraction, Encloses, EnclosesSigned}
use Rattle.scaled_decimal.specs.{Side, Lower, Upper, value, in_units}
use Rattle.conductance_bounds.specs.{declared.pair.Pair.Pair, declared.pair.FlowPair.FlowPair, declared.head.HeadPair.HeadPair, Terms.Term, Terms.bound}
use Rattle.conductance_bounds.specs.{Terms.other}

-- the floor of the lower bound and the ceiling of the upper one, in units of 10 ^ -s
unfoldable pub pair : Term → ℕ → Pair
pair t s = record { lo = in_units Lower (value (bound t Lower)) s; hi = in_units Upper (value (bound t Upper)) s }

abbrev pub PairEncloses : Term → ℕ → Ratio → Type 0
PairEncloses t s r = Encloses (pair t s).lo (pair t s).hi s r

-- a pair, or none where its upper bound is n or more
abbrev pub pair_below : ℕ → Pair → Option Pair
pair_below n p = if nat_lt p.hi n then Some p else None

abbrev pub small_pair : Term → ℕ → Option Pair
small_pair t s = pair_below (2 ^ 60) (pair t s)

-- in a table a pair whose upper bound reaches 2 ^ 60 is kept as 1 and 2 ^ 60
unfoldable pub capped_pair : Term → ℕ → Pair
capped_pair t s = unwrap_or (small_pair t s) (record { lo = 1; hi = 2 ^ 60 })

-- the bounds of a flow of either sign, by those of its magnitude: negated and exchanged where the flow is below 0
abbrev pub signed_pair : Bool → Pair → FlowPair
signed_pair false p = record { lo = pos p.lo; hi = pos p.hi }
signed_pair true p = record { lo = neg_ℤ (pos p.hi); hi = neg_ℤ (pos p.lo) }

abbrev pub flow : Term → Bool → ℕ → FlowPair
flow t neg s = signed_pair neg (pair t s)

abbrev pub FlowEncloses : Term → Bool → ℕ → Fraction → Type 0
FlowEncloses t neg s f = EnclosesSigned (flow t neg s).lo (flow t neg s).hi s f

-- the same, or none where a magnitude is 2 ^ 126 or more
abbrev pub small_flow : Term → Bool → ℕ → Option FlowPair
small_flow t neg s = option_map (signed_pair neg) (pair_below (2 ^ 126) (pair t s))

-- a flow with a magnitude that reaches 2 ^ 126 is kept as 2 ^ 109, so that the sum of its cell reaches the limit
unfoldable pub capped_flow : Term → Bool → ℕ → FlowPair
capped_flow t neg s = unwrap_or (small_flow t neg s) (record { lo = pos (2 ^ 109); hi = pos (2 ^ 109) })

-- a number of the input in whole units of 10 ^ -s; the floor of a negative number is the ceiling of its magnitude, negated
-- (`numbers_in_units`: laws)
unfoldable pub units_at : Side → Dec → ℕ → ℤ
units_at side d s = with_sign d.neg (in_units (if d.neg then other side else side) (size d) s)

-- the floor and the ceiling of a head, in units of 10 ^ -9
unfoldable pub head_pair : Dec → HeadPair
head_pair d = record { lo = units_at Lower d 9; hi = units_at Upper d 9 }
