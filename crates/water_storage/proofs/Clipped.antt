-- Bounds of the lesser and the greater of two numbers, of a fall, and of sums; and a number that is the same as another one.
use Rattle.water_storage.proofs.Common.{ℕ, ◌+◌, ◌*◌, ◌^◌, ◌<◌, arith, refl, mul-pos, clamps, ints, int_max, int_min, Encloses, EnclosesSigned, Fraction, Ratio, den, times, as_fraction, greater}
use Rattle.water_storage.proofs.Common.{lesser, minus, ExactFixed, Goes-first, Goes-second, fraction_over, between_over, enclosed_over, IsOver-greater, IsOver-lesser, max_times, min_times, Bound}
use Rattle.water_storage.proofs.Common.{High, Low, fall_flow, greater_bound, lesser_bound, Pair}
use Rattle.cell_balance.proofs.EntryBounds.{bounds_hold}
use Rattle.step_problem.specs.{declared.entry.Fixed.Fixed, declared.entry.FixedKind.TheVariants.Storage}

-- the bounds of a number
abbrev pub Within : Bound → Fraction → Type 0
Within b f = EnclosesSigned b.low b.high 9 f

module _ (a b : Bound) (f g : Fraction) (p : Within a f) (q : Within b g) where
  abbrev n : ℕ
  n = den f * den g

  some : 0 < n
  some = mul-pos (omega arith) (omega arith)

  pub lesser_within : Within (lesser_bound a b) (lesser f g)
  lesser_within =
      let (y, over_f) = fraction_over n (10 ^ 9) f (Goes-first (den f) (den g)) in
      let (z, over_g) = fraction_over n (10 ^ 9) g (Goes-second (den f) (den g)) in
      let in_f = between_over a.low a.high 9 n f y p over_f in
      let in_g = between_over b.low b.high 9 n g z q over_g in
      enclosed_over (int_min a.low b.low) (int_min a.high b.high) 9 n (lesser f g) (int_min y z) some (IsOver-lesser (n * 10 ^ 9) f g y z over_f over_g)
      (rw min_times (omega (arith, ints, clamps, in_f.lower, in_g.lower))) (rw min_times (omega (arith, ints, clamps, in_f.upper, in_g.upper)))

  pub greater_within : Within (greater_bound a b) (greater f g)
  greater_within =
      let (y, over_f) = fraction_over n (10 ^ 9) f (Goes-first (den f) (den g)) in
      let (z, over_g) = fraction_over n (10 ^ 9) g (Goes-second (den f) (den g)) in
      let in_f = between_over a.low a.high 9 n f y p over_f in
      let in_g = between_over b.low b.high 9 n g z q over_g in
      enclosed_over (int_max a.low b.low) (int_max a.high b.high) 9 n (greater f g) (int_max y z) some (IsOver-greater (n * 10 ^ 9) f g y z over_f over_g)
      (rw max_times (omega (arith, ints, clamps, in_f.lower, in_g.lower))) (rw max_times (omega (arith, ints, clamps, in_f.upper, in_g.upper)))

  -- a fall from f to g over a conductance
  pub fall_within : (s : ℕ) (r : Ratio) (x : Pair) → Encloses x.lo x.hi s r →
      EnclosesSigned (fall_flow Low x a b) (fall_flow High x a b) (s + 9) (times (as_fraction r) (minus f g))
  fall_within s r x h =
      let entry : Fixed = record { kind = Storage; source = 0; lo = x.lo; hi = x.hi; head_lo = a.low; head_hi = a.high } in
      let exact : ExactFixed = record { kind = Storage; source = 0; conductance = r; head = f } in
      (bounds_hold s g b.low b.high q).fixed entry exact (record { kind = refl; source = refl; conductance = h; head = p })
