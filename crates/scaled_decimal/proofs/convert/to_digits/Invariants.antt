use Rattle.scaled_decimal.proofs.Common.{◌≡◌, ℕ, ◌-◌, ◌^◌, ◌≤◌, ◌<◌, pos, ◌+ℤ◌, Same, scaled_ratio}
use Rattle.scaled_decimal.proofs.convert.to_digits.Given as goal

abbrev pub invariant-loop-m : goal.invariant-loop-m
invariant-loop-m l = record {
  below : l.m < 10 ^ 18;
  grown : (j : ℕ) × (l.e +ℤ pos j ≡ l.exponent) × (10 ^ j ≤ l.m);
  same : Same (scaled_ratio l.m l.e) (scaled_ratio l.digits l.exponent);
}

abbrev pub decreases-loop-m : goal.decreases-loop-m
decreases-loop-m l = 10 ^ 18 - l.m

abbrev pub invariant-loop-m-2 : goal.invariant-loop-m-2
invariant-loop-m-2 l = record {
  below : l.m < 10 ^ 18;
  grown : (j : ℕ) × (l.e +ℤ pos j ≡ l.exponent) × (10 ^ j ≤ l.m);
  same : Same (scaled_ratio l.m l.e) (scaled_ratio l.digits l.exponent);
}

abbrev pub decreases-loop-m-2 : goal.decreases-loop-m-2
decreases-loop-m-2 l = 10 ^ 18 - l.m
