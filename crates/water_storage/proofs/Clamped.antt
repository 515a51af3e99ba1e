-- The falls of the lesser and of the greater of a head and an elevation, which is known by its floor t and its ceiling u: they are those of heads or less.
use Rattle.water_storage.proofs.Common.{◌-◌, ◌+◌, ◌^◌, arith, ℤ, pos, ◌-ℤ◌, ◌+ℤ◌, clamps, ints, int_max, int_min, IsHead, IsMagnitudeAtMost, ◌≤ℤ◌}

module _ (a b t u : ℤ) (p : IsHead a) (q : IsHead b) (order : t ≤ℤ u) (near : u ≤ℤ (t +ℤ pos 1)) where
  pub lesser_down : IsMagnitudeAtMost (int_min a t -ℤ int_min b u) (2 ^ 63 - 1)
  lesser_down = record {
    above = omega (arith, ints, clamps, p.above, p.below, q.above, q.below);
    below = omega (arith, ints, clamps, p.above, p.below, q.above, q.below);
  }

  pub lesser_up : IsMagnitudeAtMost (int_min a u -ℤ int_min b t) (2 ^ 63 - 1)
  lesser_up = record {
    above = omega (arith, ints, clamps, p.above, p.below, q.above, q.below);
    below = omega (arith, ints, clamps, p.above, p.below, q.above, q.below);
  }

  pub greater_down : IsMagnitudeAtMost (int_max a t -ℤ int_max b u) (2 ^ 63 - 1)
  greater_down = record {
    above = omega (arith, ints, clamps, p.above, p.below, q.above, q.below);
    below = omega (arith, ints, clamps, p.above, p.below, q.above, q.below);
  }

  pub greater_up : IsMagnitudeAtMost (int_max a u -ℤ int_max b t) (2 ^ 63 - 1)
  greater_up = record {
    above = omega (arith, ints, clamps, p.above, p.below, q.above, q.below);
    below = omega (arith, ints, clamps, p.above, p.below, q.above, q.below);
  }
