-- Fractions that are the same number: differences of sums are sums of differences.
use Rattle.plan_difference.proofs.Common.{◌≡◌, ℕ, ◌*◌, ◌<◌, ◌∙◌, ap, sym, refl, arith, mul-pos, ℤ, pos, ◌*ℤ◌, ◌+ℤ◌, List, [], ◌∷◌, ◌++◌, ints, AllZip, Same-trans, cancel_right, le-antisym, le-of}
use Rattle.plan_difference.proofs.Common.{last_factors_swap, Fraction, IsOver, fraction_total, whole, Same, den, plus, Goes, fraction_over, left_goes, right_goes, same_over, IsOver-minus, IsOver-none}
use Rattle.plan_difference.proofs.Common.{IsOver-plus, minus}

-- four fractions over one denominator
record FourOver (a b c d : Fraction) : Type 0 where
  n : ℕ
  some : 0 < n
  za : ℤ
  zb : ℤ
  zc : ℤ
  zd : ℤ
  first : IsOver n a za
  second : IsOver n b zb
  third : IsOver n c zc
  fourth : IsOver n d zd

four_over : (a b c d : Fraction) → FourOver a b c d
four_over a b c d =
    let m = den a * den b * (den c * den d) in
    let all : Goes m m = (1, omega arith) in
    let front = left_goes (den a * den b) (den c * den d) m all in
    let back = right_goes (den a * den b) (den c * den d) m all in
    let (x, p) = fraction_over m 1 a (left_goes (den a) (den b) m front) in
    let (y, q) = fraction_over m 1 b (right_goes (den a) (den b) m front) in
    let (z, r) = fraction_over m 1 c (left_goes (den c) (den d) m back) in
    let (w, s) = fraction_over m 1 d (right_goes (den c) (den d) m back) in
    record {
      n = m * 1;
      some = mul-pos (mul-pos (mul-pos (omega arith) (omega arith)) (mul-pos (omega arith) (omega arith))) (omega arith);
      za = x;
      zb = y;
      zc = z;
      zd = w;
      first = p;
      second = q;
      third = r;
      fourth = s;
    }

pub same_self : (f : Fraction) → Same f f
same_self f = record { same = refl }

-- a number over n, under another name
pub same_is_over : (n : ℕ) (f g : Fraction) (z : ℤ) → Same f g → IsOver n g z → IsOver n f z
same_is_over n f g z s over = record { is = le-antisym _ _ (cancel_right (den g) _ _ (omega arith) (le-of _ _ crossed)) (cancel_right (den g) _ _ (omega arith) (le-of _ _ (sym crossed))) }
  where
    crossed : (f.num *ℤ pos n) *ℤ pos (den g) ≡ (z *ℤ pos (den f)) *ℤ pos (den g)
    crossed =
        last_factors_swap f.num (pos n) (pos (den g)) ∙ ap (λ (k : ℤ). k *ℤ pos n) s.same ∙ last_factors_swap g.num (pos (den f)) (pos n) ∙ ap (λ (k : ℤ). k *ℤ pos (den f)) over.is
        ∙ last_factors_swap z (pos (den g)) (pos (den f))

pub sums_same : (a b c d : Fraction) → Same a b → Same c d → Same (plus a c) (plus b d)
sums_same a b c d p q =
    let o = four_over b d b d in
    same_over o.n (plus a c) (plus b d) (o.za +ℤ o.zb) (o.za +ℤ o.zb) o.some
    (IsOver-plus o.n a c o.za o.zb (same_is_over o.n a b o.za p o.first) (same_is_over o.n c d o.zb q o.second)) (IsOver-plus o.n b d o.za o.zb o.first o.second) refl

-- regrouped sums, and sums with nothing
regrouped : (a b c d : Fraction) → Same (minus (plus a b) (plus c d)) (plus (minus a c) (minus b d))
regrouped a b c d =
    let o = four_over a b c d in
    same_over o.n (minus (plus a b) (plus c d)) (plus (minus a c) (minus b d)) _ _ o.some
    (IsOver-minus o.n (plus a b) (plus c d) _ _ (IsOver-plus o.n a b o.za o.zb o.first o.second) (IsOver-plus o.n c d o.zc o.zd o.third o.fourth))
    (IsOver-plus o.n (minus a c) (minus b d) _ _ (IsOver-minus o.n a c o.za o.zc o.first o.third) (IsOver-minus o.n b d o.zb o.zd o.second o.fourth))
    (omega (arith, ints))

to_the_left : (a b c : Fraction) → Same (plus a (plus b c)) (plus (plus a b) c)
to_the_left a b c =
    let o = four_over a b c c in
    same_over o.n (plus a (plus b c)) (plus (plus a b) c) _ _ o.some
    (IsOver-plus o.n a (plus b c) o.za _ o.first (IsOver-plus o.n b c o.zb o.zc o.second o.third))
    (IsOver-plus o.n (plus a b) c _ o.zc (IsOver-plus o.n a b o.za o.zb o.first o.second) o.third)
    (omega (arith, ints))

pub nothing_after : (f : Fraction) → Same (plus f (whole (pos 0))) f
nothing_after f = let o = four_over f f f f in same_over o.n _ f _ o.za o.some (IsOver-plus o.n f (whole (pos 0)) o.za (pos 0) o.first (IsOver-none o.n)) o.first (omega (arith, ints))

pub nothing_before : (f : Fraction) → Same f (plus (whole (pos 0)) f)
nothing_before f = let o = four_over f f f f in same_over o.n f _ o.za _ o.some o.first (IsOver-plus o.n (whole (pos 0)) f (pos 0) o.za (IsOver-none o.n) o.first) (omega (arith, ints))

-- the difference of two sums, term by term
pub difference_of_sums : (a b c d s t : Fraction) → Same (minus a c) s → Same (minus b d) t → Same (minus (plus a b) (plus c d)) (plus s t)
difference_of_sums a b c d s t p q = Same-trans (regrouped a b c d) (sums_same (minus a c) s (minus b d) t p q)

pub difference_of_totals : {X Z : Type 0} (R : X → Z → Type 0) (f g : X → Fraction) (h : Z → Fraction) →
    ((x : X) (z : Z) → R x z → Same (minus (f x) (g x)) (h z)) → (xs : List X) (zs : List Z) → AllZip R xs zs →
    Same (minus (fraction_total f xs) (fraction_total g xs)) (fraction_total h zs)
difference_of_totals R f g h each [] [] all = record { same = refl }
difference_of_totals R f g h each (x ∷ xs) (z ∷ zs) all = difference_of_sums _ _ _ _ _ _ (each x z all.0) (difference_of_totals R f g h each xs zs all.1)
difference_of_totals _ f g h each _ _ all = absurd all

pub total_of_both : {X : Type 0} (f : X → Fraction) (xs ys : List X) → Same (fraction_total f (xs ++ ys)) (plus (fraction_total f xs) (fraction_total f ys))
total_of_both f [] ys = nothing_before (fraction_total f ys)
total_of_both f (x ∷ xs) ys = Same-trans (sums_same _ _ _ _ (same_self (f x)) (total_of_both f xs ys)) (to_the_left (f x) (fraction_total f xs) (fraction_total f ys))
