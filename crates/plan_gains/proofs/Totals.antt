-- The sources by the sum of all eight terms.
use Rattle.plan_gains.proofs.Common.{TermPair, all_terms, arith, ints, listed, map, no_pair, pos, refl, source, sum_of, tighter_of, total_of, ℤ, ◌+ℤ◌, ◌∷◌, [], ◌≡◌}
use Rattle.plan_gains.specs.declared.terms.TermSums.{TermSums}

eight : (a b c d e f g h : ℤ) → ((a +ℤ b) +ℤ (c +ℤ d)) +ℤ ((e +ℤ f) +ℤ (g +ℤ h)) ≡ a +ℤ (b +ℤ (c +ℤ (d +ℤ (e +ℤ (f +ℤ (g +ℤ (h +ℤ pos 0)))))))
eight a b c d e f g h = omega (arith, ints)

pub sources_are : (x : TermSums) (all storage constant drains rivers general et : TermPair) → all ≡ total_of x → storage ≡ tighter_of x.storage all →
    constant ≡ tighter_of x.constant all → drains ≡ tighter_of x.drains all → rivers ≡ tighter_of x.rivers all → general ≡ tighter_of x.general all →
    et ≡ tighter_of x.et all → storage ∷ constant ∷ no_pair ∷ drains ∷ rivers ∷ general ∷ no_pair ∷ et ∷ [] ≡ map (source (sum_of (listed x))) all_terms
sources_are x all storage constant drains rivers general et is a b c d e f =
    rw (a, b, c, d, e, f, is)
    (rw (
      eight x.storage.lo x.constant.lo x.wells.lo x.drains.lo x.rivers.lo x.general.lo x.recharge.lo x.et.lo,
      eight x.storage.hi x.constant.hi x.wells.hi x.drains.hi x.rivers.hi x.general.hi x.recharge.hi x.et.hi,
    ) refl)
