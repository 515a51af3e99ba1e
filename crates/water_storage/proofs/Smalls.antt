-- The flow of stored water is below 2^123 units: the falls below and above the top are together no more than that of the head.
use Rattle.water_storage.proofs.Common.{ℕ, ℤ, ◌*◌, ◌+◌, ◌^◌, ◌<◌, pos, arith, ◌*ℤ◌, ◌+ℤ◌, ◌-ℤ◌, ◌≤ℤ◌, clamps, ints, int_max, int_min, IsHead, IsMagnitudeAtMost, Bound, High, Low, branch_flow}
use Rattle.water_storage.proofs.Common.{IsSmallPair, IsTop, fall_flow, fall_on, greater_bound, lesser_bound, negsuc, ◌≤◌, Side, Pair}
use Rattle.std.proofs.Math.Nat.{mul-le-mul_right}

-- at most 2^60 times the fall where it isn't negative, at least 2^60 times it where it is
record IsNear (d z : ℤ) : Type 0 where
  above : (pos (2 ^ 60) *ℤ int_min d (pos 0)) ≤ℤ z
  below : z ≤ℤ (pos (2 ^ 60) *ℤ int_max d (pos 0))

near : (side : Side) (lo hi : ℕ) (d : ℤ) → lo ≤ hi → hi < 2 ^ 60 → IsNear d (branch_flow side lo hi d)
near Low lo hi (pos n) p q =
    let k : lo * n ≤ 2 ^ 60 * n = mul-le-mul_right n (omega (arith, p, q)) in record { above = omega (arith, ints, clamps); below = omega (arith, ints, clamps) }
near High lo hi (pos n) p q =
    let k : hi * n ≤ 2 ^ 60 * n = mul-le-mul_right n (omega (arith, q)) in record { above = omega (arith, ints, clamps); below = omega (arith, ints, clamps) }
near Low lo hi (negsuc n) p q =
    let k : hi * (n + 1) ≤ 2 ^ 60 * (n + 1) = mul-le-mul_right (n + 1) (omega (arith, q)) in record { above = omega (arith, ints, clamps); below = omega (arith, ints, clamps) }
near High lo hi (negsuc n) p q =
    let k : lo * (n + 1) ≤ 2 ^ 60 * (n + 1) = mul-le-mul_right (n + 1) (omega (arith, p, q)) in record { above = omega (arith, ints, clamps); below = omega (arith, ints, clamps) }

-- falls that are together at most 2^63 either way
record AreTogetherSmall (d e : ℤ) : Type 0 where
  above : (pos 0 -ℤ pos (2 ^ 63)) ≤ℤ (int_min d (pos 0) +ℤ int_min e (pos 0))
  below : (int_max d (pos 0) +ℤ int_max e (pos 0)) ≤ℤ pos (2 ^ 63)

sum_small : (d e x y : ℤ) → AreTogetherSmall d e → IsNear d x → IsNear e y → IsMagnitudeAtMost (x +ℤ y) (2 ^ 123)
sum_small d e x y t p q = record {
  above = omega (arith, ints, t.above, p.above, q.above);
  below = omega (arith, ints, t.below, p.below, q.below);
}

module _ (a b t u : ℤ) (p : IsHead a) (q : IsHead b) (order : t ≤ℤ u) (close : u ≤ℤ (t +ℤ pos 1)) where
  down : AreTogetherSmall (int_min a t -ℤ int_min b u) (int_max a t -ℤ int_max b u)
  down = record {
    above = omega (arith, ints, clamps, p.above, p.below, q.above, q.below);
    below = omega (arith, ints, clamps, p.above, p.below, q.above, q.below);
  }

  up : AreTogetherSmall (int_min a u -ℤ int_min b t) (int_max a u -ℤ int_max b t)
  up = record {
    above = omega (arith, ints, clamps, p.above, p.below, q.above, q.below);
    below = omega (arith, ints, clamps, p.above, p.below, q.above, q.below);
  }

module _ (drained compressed : Pair) (old new top : Bound) (p : IsSmallPair drained) (q : IsSmallPair compressed) (o : IsHead old.low × IsHead old.high)
    (n : IsHead new.low × IsHead new.high) (is : IsTop top) where
  pub crossing_small : (side : Side) → IsMagnitudeAtMost (fall_flow side drained (lesser_bound old top) (lesser_bound new top)
      +ℤ fall_flow side compressed (greater_bound old top) (greater_bound new top)) (2 ^ 123)
  crossing_small Low = sum_small _ _ _ _ (down old.low new.high top.low top.high o.0 n.1 is.order is.near)
      (near Low drained.lo drained.hi _ p.order p.small) (near Low compressed.lo compressed.hi _ q.order q.small)
  crossing_small High = sum_small _ _ _ _ (up old.high new.low top.low top.high o.1 n.0 is.order is.near)
      (near High drained.lo drained.hi _ p.order p.small) (near High compressed.lo compressed.hi _ q.order q.small)
