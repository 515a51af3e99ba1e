-- Fractions in order: their sums, differences, multiples, and the lesser and the greater of two. Each is shown in whole numbers over one denominator.
use Rattle.water_table.proofs.Common.{◌≡◌, ℕ, zero, suc, ◌*◌, ◌<◌, refl, sym, subst, arith, ℤ, pos, ◌*ℤ◌, List, [], ◌∷◌, inl, inr, cases_eq, mul-pos, slice_index_or, ints, clamps, le_over, over_le}
use Rattle.water_table.proofs.Common.{IsOver-plus, IsOver-minus, IsOver-times, IsOver-signed, IsOver-lesser, IsOver-greater, greater, lesser, minus, Fraction, IsOver, Ratio, as_fraction, whole}
use Rattle.water_table.proofs.Common.{AtMost, den, mul_assoc, mul_mono, le-add, le-of, below_over, by_lt_z, IsBelow, ◌<ℤ◌}
use Rattle.decimal_input.specs.{Fractions.plus, Fractions.times, Ratios.den as ratio_den}
use Rattle.flow_equations.proofs.GivenAtSteps.{over_multiple}

pub own_over : (M : ℕ) (f : Fraction) → IsOver (M * den f) f (f.num *ℤ pos M)
own_over M f = record { is = sym (mul_assoc f.num (pos M) (pos (den f))) }

-- the first n of these fractions have a common denominator
pub common_denominator_exists : (n : ℕ) (f : ℕ → Fraction) → (M : ℕ) × (0 < M) × ((k : ℕ) → k < n → (z : ℤ) × IsOver M (f k) z)
common_denominator_exists zero f = (1, omega arith, λ k h. absurd (omega (arith, h)))
common_denominator_exists (suc n) f =
    let (M, some, at) = common_denominator_exists n f in
    (M * den (f n), mul-pos some (omega arith), one_more n f M at)
  where
    one_more : (n : ℕ) (f : ℕ → Fraction) (M : ℕ) → ((k : ℕ) → k < n → (z : ℤ) × IsOver M (f k) z) → (k : ℕ) → k < suc n → (z : ℤ) × IsOver (M * den (f n)) (f k) z
    one_more n f M at k h = elim (cases_eq k n) [
      | inl last ↦ subst (λ (j : ℕ). (z : ℤ) × IsOver (M * den (f n)) (f j) z) (sym last) ((f n).num *ℤ pos M, own_over M (f n))
      | inr early ↦ let (z, o) = at k (omega (arith, h, early)) in (z *ℤ pos (den (f n)), over_multiple M (den (f n)) (f k) z o)
    ]

abbrev pub among : List Fraction → ℕ → Fraction
among xs k = slice_index_or xs k (whole (pos 0))

pub AtMost-of : (f g : Fraction) → f ≡ g → AtMost f g
AtMost-of f g e = subst (AtMost f) e (record { at_most = le-of _ _ refl })

pub plus_rises : (f f' g g' : Fraction) → AtMost f f' → AtMost g g' → AtMost (plus f g) (plus f' g')
plus_rises f f' g g' p q =
    let (M, some, at) = common_denominator_exists 4 (among (f ∷ f' ∷ g ∷ g' ∷ [])) in
    let (a, oa) = at 0 (omega arith) in
    let (b, ob) = at 1 (omega arith) in
    let (c, oc) = at 2 (omega arith) in
    let (e, oe) = at 3 (omega arith) in
    le_over M _ _ _ _ some (IsOver-plus M f g a c oa oc) (IsOver-plus M f' g' b e ob oe) (le-add a c b e (over_le M f f' a b oa ob p) (over_le M g g' c e oc oe q))

pub minus_rises : (f f' g g' : Fraction) → AtMost f f' → AtMost g' g → AtMost (minus f g) (minus f' g')
minus_rises f f' g g' p q =
    let (M, some, at) = common_denominator_exists 4 (among (f ∷ f' ∷ g ∷ g' ∷ [])) in
    let (a, oa) = at 0 (omega arith) in
    let (b, ob) = at 1 (omega arith) in
    let (c, oc) = at 2 (omega arith) in
    let (e, oe) = at 3 (omega arith) in
    le_over M _ _ _ _ some (IsOver-minus M f g a c oa oc) (IsOver-minus M f' g' b e ob oe) (omega (arith, ints, over_le M f f' a b oa ob p, over_le M g' g e c oe oc q))

pub ratio_over : (r : Ratio) → IsOver (ratio_den r) (as_fraction r) (pos r.num)
ratio_over r = IsOver-signed (ratio_den r) r r.num (record { is = refl })

pub times_rises : (r : Ratio) (f f' : Fraction) → AtMost f f' → AtMost (times (as_fraction r) f) (times (as_fraction r) f')
times_rises r f f' p =
    let (M, some, at) = common_denominator_exists 2 (among (f ∷ f' ∷ [])) in
    let (a, oa) = at 0 (omega arith) in
    let (b, ob) = at 1 (omega arith) in
    le_over (ratio_den r * M) _ _ _ _ (mul-pos (omega arith) some) (IsOver-times (ratio_den r) M (as_fraction r) f (pos r.num) a (ratio_over r) oa)
    (IsOver-times (ratio_den r) M (as_fraction r) f' (pos r.num) b (ratio_over r) ob) (mul_mono r.num a b (over_le M f f' a b oa ob p))

pub lesser_rises : (f f' g : Fraction) → AtMost f f' → AtMost (lesser f g) (lesser f' g)
lesser_rises f f' g p =
    let (M, some, at) = common_denominator_exists 3 (among (f ∷ f' ∷ g ∷ [])) in
    let (a, oa) = at 0 (omega arith) in
    let (b, ob) = at 1 (omega arith) in
    let (c, oc) = at 2 (omega arith) in
    le_over M _ _ _ _ some (IsOver-lesser M f g a c oa oc) (IsOver-lesser M f' g b c ob oc) (omega (arith, ints, clamps, over_le M f f' a b oa ob p))

pub greater_rises : (f f' g : Fraction) → AtMost f f' → AtMost (greater f g) (greater f' g)
greater_rises f f' g p =
    let (M, some, at) = common_denominator_exists 3 (among (f ∷ f' ∷ g ∷ [])) in
    let (a, oa) = at 0 (omega arith) in
    let (b, ob) = at 1 (omega arith) in
    let (c, oc) = at 2 (omega arith) in
    le_over M _ _ _ _ some (IsOver-greater M f g a c oa oc) (IsOver-greater M f' g b c ob oc) (omega (arith, ints, clamps, over_le M f f' a b oa ob p))

-- a number below another one in whole numbers is below it
pub less_is_below : (M : ℕ) (f g : Fraction) (a b : ℤ) → IsOver M f a → IsOver M g b → a <ℤ b → IsBelow f g
less_is_below M f g a b p q less =
    by_lt_z (f.num *ℤ pos (den g)) (g.num *ℤ pos (den f)) (λ below. record { below = below })
    (λ back. absurd (let le = over_le M g f b a q p (record { at_most = back }) in omega (arith, ints, le, less)))

pub below_then_at_most : (f u g : Fraction) → IsBelow f u → AtMost u g → IsBelow f g
below_then_at_most f u g less le =
    let (M, some, at) = common_denominator_exists 3 (among (f ∷ u ∷ g ∷ [])) in
    let (a, oa) = at 0 (omega arith) in
    let (b, ob) = at 1 (omega arith) in
    let (c, oc) = at 2 (omega arith) in
    less_is_below M f g a c oa oc (omega (arith, ints, below_over M f u a b some oa ob less, over_le M u g b c ob oc le))
