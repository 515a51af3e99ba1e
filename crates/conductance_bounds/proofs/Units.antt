-- A number of the input in whole units is its floor or its ceiling.
use Rattle.conductance_bounds.proofs.Common.{◌≡◌, ℕ, ◌+◌, ◌*◌, ◌^◌, Bool, true, false, arith, refl, ints, ℤ, pos, negsuc, neg_ℤ, ◌+ℤ◌, ◌*ℤ◌, ◌≤ℤ◌, ◌<ℤ◌, Dec, number, size, with_sign, IsSignedFloor}
use Rattle.conductance_bounds.proofs.Common.{IsSignedCeiling, Lower, Upper, in_units, units_at, head_pair, HeadPair, if◌then◌else◌, div-mul-le_self, lt-mul-div-succ, ceiling_of, head_floor_of, other}
use Rattle.conductance_bounds.proofs.Common.{ceiling_of_ceiling, ceiling_of_floor, floor_of_ceiling, floor_of_floor, is_ceiling, is_floor}
use Rattle.decimal_input.proofs.FloorLaws.{one_ceiling, one_floor}

pub units_floor : (d : Dec) (s : ℕ) → IsSignedFloor (units_at Lower d s) (number d) s
unfolding units_at
units_floor d s = by_sign d.neg refl
  where
    by_sign : (neg : Bool) → d.neg ≡ neg → IsSignedFloor (with_sign neg (in_units (if neg then other Lower else Lower) (size d) s)) (number d) s
    by_sign false e = floor_of_floor d s _ _ e refl (is_floor (size d) s)
    by_sign true e = floor_of_ceiling d s _ _ e refl (is_ceiling (size d) s)

pub units_ceiling : (d : Dec) (s : ℕ) → IsSignedCeiling (units_at Upper d s) (number d) s
unfolding units_at
units_ceiling d s = by_sign d.neg refl
  where
    by_sign : (neg : Bool) → d.neg ≡ neg → IsSignedCeiling (with_sign neg (in_units (if neg then other Upper else Upper) (size d) s)) (number d) s
    by_sign false e = ceiling_of_ceiling d s _ _ e refl (is_ceiling (size d) s)
    by_sign true e = ceiling_of_floor d s _ _ e refl (is_floor (size d) s)

-- and each floor and each ceiling is that one
pub floor_units : (d : Dec) (s : ℕ) (z : ℤ) → IsSignedFloor z (number d) s → z ≡ units_at Lower d s
floor_units d s z h = one_floor (number d) (number d) s z (units_at Lower d s) (record { same = refl }) h (units_floor d s)

pub ceiling_units : (d : Dec) (s : ℕ) (z : ℤ) → IsSignedCeiling z (number d) s → z ≡ units_at Upper d s
ceiling_units d s z h = one_ceiling (number d) (number d) s z (units_at Upper d s) (record { same = refl }) h (units_ceiling d s)

abbrev pub pair_of : ℤ → ℤ → HeadPair
pair_of lo hi = record { lo = lo; hi = hi }

pub head_pair_is : (d : Dec) (lo hi : ℤ) → IsSignedFloor lo (number d) 9 → IsSignedCeiling hi (number d) 9 → pair_of lo hi ≡ head_pair d
unfolding head_pair
head_pair_is d lo hi low high = let p = floor_units d 9 lo low in let q = ceiling_units d 9 hi high in λ i. record { lo = p i; hi = q i }

pub head_floor : (d : Dec) → IsSignedFloor (head_pair d).lo (number d) 9
unfolding head_pair
head_floor d = units_floor d 9

pub head_ceiling : (d : Dec) → IsSignedCeiling (head_pair d).hi (number d) 9
unfolding head_pair
head_ceiling d = units_ceiling d 9

-- A whole number over 10 ^ 18: z is the floor, or the ceiling, of x over 10 ^ 18.
pub record IsFloorOf (x z : ℤ) : Type 0 where
  pub at_most : (z *ℤ pos (10 ^ 18)) ≤ℤ x
  pub next : x <ℤ ((z +ℤ pos 1) *ℤ pos (10 ^ 18))

pub record IsCeilingOf (x z : ℤ) : Type 0 where
  pub at_least : x ≤ℤ (z *ℤ pos (10 ^ 18))
  pub next : ((z +ℤ neg_ℤ (pos 1)) *ℤ pos (10 ^ 18)) <ℤ x

pub floor_is : (x : ℤ) → IsFloorOf x (head_floor_of x)
floor_is (pos n) = record { at_most = omega (arith, ints, div-mul-le_self n (10 ^ 18)); next = omega (arith, ints, lt-mul-div-succ n {b = 10 ^ 18} (omega arith)) }
floor_is (negsuc n) = record { at_most = omega (arith, ints, lt-mul-div-succ n {b = 10 ^ 18} (omega arith)); next = omega (arith, ints, div-mul-le_self n (10 ^ 18)) }

pub ceiling_is : (x : ℤ) → IsCeilingOf x (ceiling_of x)
ceiling_is x = grind (arith, floor_is)
