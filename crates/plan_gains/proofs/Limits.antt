-- Tests of sums that stop at 2^126 tell what tests of the whole sums do; and sources by all sums.
use Rattle.plan_gains.proofs.Common.{Bool, Term, TermPair, arith, capped_term, clamps, false, gain_limit, ints, net_of, net_or_large, refl, sym, term_limit, true, ℤ, ◌<ℤ◌, ◌≡◌, ◌≤ℤ◌, Ok}
use Rattle.std.specs.{Int.int_min, Int.Signed.lt_z}

module _ (cap limit : ℤ) (less : limit ≤ℤ cap) where
  alike : (a : ℤ) (s t : Bool) → lt_z (int_min a cap) limit ≡ s → lt_z a limit ≡ t → s ≡ t
  alike a true true e f = refl
  alike a true false e f = absurd (omega (arith, ints, clamps))
  alike a false true e f = absurd (omega (arith, ints, clamps))
  alike a false false e f = refl

  below : (a : ℤ) → lt_z a limit ≡ true → int_min a cap ≡ a
  below a e = omega (arith, ints, clamps)

in_order : gain_limit ≤ℤ term_limit
in_order = omega (arith, ints)

kept : (a : ℤ) (t : Bool) → lt_z a gain_limit ≡ t → lt_z (int_min a term_limit) gain_limit ≡ t
kept a t e = alike term_limit gain_limit in_order a (lt_z (int_min a term_limit) gain_limit) t refl e

stays : (a : ℤ) → lt_z a gain_limit ≡ true → int_min a term_limit ≡ a
stays a e = below term_limit gain_limit in_order a e

module _ (t : Term) (x y : TermPair) where
  less_tested : (a b c d : Bool) → lt_z x.lo gain_limit ≡ a → lt_z x.hi gain_limit ≡ b → lt_z y.lo gain_limit ≡ c → lt_z y.hi gain_limit ≡ d →
      net_or_large t (capped_term x) (capped_term y) ≡ net_or_large t x y
  less_tested true true true true e f g h = rw (stays x.lo e, stays x.hi f, stays y.lo g, stays y.hi h) refl
  less_tested true true true false e f g h = rw (kept x.lo true e, kept x.hi true f, kept y.lo true g, kept y.hi false h, e, f, g, h) refl
  less_tested true true false d e f g h = rw (kept x.lo true e, kept x.hi true f, kept y.lo false g, e, f, g) refl
  less_tested true false c d e f g h = rw (kept x.lo true e, kept x.hi false f, e, f) refl
  less_tested false b c d e f g h = rw (kept x.lo false e, e) refl

  pub net_capped : net_or_large t (capped_term x) (capped_term y) ≡ net_or_large t x y
  net_capped = less_tested (lt_z x.lo gain_limit) (lt_z x.hi gain_limit) (lt_z y.lo gain_limit) (lt_z y.hi gain_limit) refl refl refl refl

tested : (a : ℤ) (t : Bool) → lt_z a gain_limit ≡ t → a <ℤ gain_limit → t ≡ true
tested a true e h = refl
tested a false e h = absurd (omega (arith, ints))

is_below : (a : ℤ) → a <ℤ gain_limit → lt_z a gain_limit ≡ true
is_below a h = tested a (lt_z a gain_limit) refl h

pub net_small : (t : Term) (x y : TermPair) → x.lo <ℤ gain_limit → x.hi <ℤ gain_limit → y.lo <ℤ gain_limit → y.hi <ℤ gain_limit →
    Ok (net_of x y) ≡ net_or_large t x y
net_small t x y a b c d = sym (rw (is_below x.lo a, is_below x.hi b, is_below y.lo c, is_below y.hi d) refl)
