-- A certificate over a cut barrier encloses every solution, and one over the clamped barrier fails only where a bound was cut.
use Rattle.certificate_check.proofs.Common.{lower_at, upper_at, head_at, ℕ, ℤ, ◌^◌, inl, inr, subst, arith, pos, neg_ℤ, ◌*ℤ◌, ◌≤ℤ◌, ◌<ℤ◌, Low, High, head_limit, pair_certifies, HoldsAt}
use Rattle.certificate_check.proofs.Common.{CertificateEncloses, FailsOnlyWhereCut, CertificateExcludesRefusal, RangeRefusalIsOne, ClampedPairEncloses, bounds_enclose}
use Rattle.std.proofs.lemmas.Int.{by_lt_z, clamps, ints}
use Rattle.decimal_input.proofs.FloorLaws.{le-trans, mul_mono_right}
use Rattle.barrier_vector.specs.{clamp, clamped_edges, range_on}
use Rattle.barrier_vector.proofs.{Cutting.refusal_is_one, Outlining.clamped_at}
use Rattle.certificate_check.proofs.Certified.{certificate_compares}

-- a head at or past a bound that was not cut lies where the bound does, and no head lies at one that was cut
low_lies : (d : ℕ) (f y l : ℤ) → neg_ℤ (pos head_limit) ≤ℤ l → (neg_ℤ (pos head_limit) ≤ℤ f → (f *ℤ pos d) ≤ℤ y) → l ≤ℤ f → (l *ℤ pos d) ≤ℤ y
low_lies d f y l head uncut under = le-trans _ _ _ (mul_mono_right d l f under) (uncut (le-trans _ _ _ head under))

high_lies : (d : ℕ) (f y u : ℤ) → u ≤ℤ pos head_limit → (f ≤ℤ pos head_limit → y ≤ℤ (f *ℤ pos d)) → f ≤ℤ u → y ≤ℤ (u *ℤ pos d)
high_lies d f y u head uncut over = le-trans _ _ _ (uncut (le-trans _ _ _ over head)) (mul_mono_right d f u over)

pub words_enclose : CertificateEncloses
words_enclose p b words ok fits held certificate uncut s e d X encloses some solves =
    let lies = uncut s e d X encloses some solves in
    bounds_enclose p (lower_at words) (upper_at words) s e d X ok held encloses some solves
    (λ c i. elim (certificate.low c i) [ inl under ↦ inl (low_lies d (head_at b.floor c) _ (lower_at words c) (fits.low c i).above (lies.low c i) under) | inr can ↦ inr can ])
    (λ c i. elim (certificate.high c i) [ inl over ↦ inl (high_lies d (head_at b.ceiling c) _ (upper_at words c) (fits.high c i).below (lies.high c i) over) | inr can ↦ inr can ])

low_stays : (f l : ℤ) → (f <ℤ neg_ℤ (pos head_limit) → ⊥) → l ≤ℤ clamp f → l ≤ℤ f
low_stays f l uncut under = by_lt_z f (neg_ℤ (pos head_limit)) (λ cut. absurd (uncut cut)) (λ le. omega (arith, ints, clamps, under, le))

high_stays : (f u : ℤ) → (pos head_limit <ℤ f → ⊥) → clamp f ≤ℤ u → f ≤ℤ u
high_stays f u uncut over = by_lt_z (pos head_limit) f (λ cut. absurd (uncut cut)) (λ le. omega (arith, ints, clamps, over, le))

pub fails_only_where_cut : FailsOnlyWhereCut
fails_only_where_cut p b words certificate c Low i uncut =
    elim (certificate.low c i) [
      | inl under ↦ inl (low_stays (head_at b.floor c) (lower_at words c) uncut (subst (λ (z : ℤ). lower_at words c ≤ℤ z) (clamped_at b.floor c) under))
      | inr balance ↦ inr balance
    ]
fails_only_where_cut p b words certificate c High i uncut =
    elim (certificate.high c i) [
      | inl over ↦ inl (high_stays (head_at b.ceiling c) (upper_at words c) uncut (subst (λ (z : ℤ). z ≤ℤ upper_at words c) (clamped_at b.ceiling c) over))
      | inr balance ↦ inr balance
    ]

pub excludes_refusal : CertificateExcludesRefusal
excludes_refusal p b words n certificate (inl (c, named, least)) = least.has (certificate.low c least.within)
excludes_refusal p b words n certificate (inr (none, (c, named, least))) = least.has (certificate.high c least.within)

pub range_refusal_is_one : RangeRefusalIsOne
range_refusal_is_one p b words = refusal_is_one range_on (λ side c. HoldsAt p b words c side → ⊥) p

-- a solution in the range of heads lies above a clamped floor, and below a clamped ceiling
low_clamped : (d : ℕ) (f y : ℤ) → (neg_ℤ (pos head_limit) *ℤ pos d) ≤ℤ y → (neg_ℤ (pos head_limit) ≤ℤ f → (f *ℤ pos d) ≤ℤ y) → (clamp f *ℤ pos d) ≤ℤ y
low_clamped d f y range uncut =
    by_lt_z f (neg_ℤ (pos head_limit))
    (λ cut. le-trans _ _ _ (mul_mono_right d (clamp f) (neg_ℤ (pos head_limit)) (omega (arith, ints, clamps, cut))) range)
    (λ le. le-trans _ _ _ (mul_mono_right d (clamp f) f (omega (arith, ints, clamps, le))) (uncut le))

high_clamped : (d : ℕ) (f y : ℤ) → y ≤ℤ (pos head_limit *ℤ pos d) → (f ≤ℤ pos head_limit → y ≤ℤ (f *ℤ pos d)) → y ≤ℤ (clamp f *ℤ pos d)
high_clamped d f y range uncut =
    by_lt_z (pos head_limit) f
    (λ cut. le-trans _ _ _ range (mul_mono_right d (pos head_limit) (clamp f) (omega (arith, ints, clamps, cut))))
    (λ le. le-trans _ _ _ (uncut le) (mul_mono_right d f (clamp f) (omega (arith, ints, clamps, le))))

pub clamped_encloses : ClampedPairEncloses
clamped_encloses p b l u ok barrier held uncut pair s e d X encloses some solves range =
    let lies = uncut s e d X encloses some solves in
    certificate_compares p (clamped_edges b) l u ok (pair_certifies p (clamped_edges b) l u ok barrier pair) held s e d X encloses some solves
    (record {
      low = λ c i. rw (clamped_at b.floor c) (low_clamped d (head_at b.floor c) (X c *ℤ pos (10 ^ 9)) (range.low c i) (lies.low c i));
      high = λ c i. rw (clamped_at b.ceiling c) (high_clamped d (head_at b.ceiling c) (X c *ℤ pos (10 ^ 9)) (range.high c i) (lies.high c i));
    })
