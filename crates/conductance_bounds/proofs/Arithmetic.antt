-- Arithmetic on spans: operations keep the order, and exponents grow with each by 18 at most.
use Rattle.conductance_bounds.proofs.Common.{ℕ, zero, ◌+◌, ◌≤◌, ◌<◌, arith, ℤ, pos, negsuc, neg_ℤ, ◌+ℤ◌, ◌-ℤ◌, unsigned_abs, int_min, int_max, ints, clamps, AtMost, plus, times, over, AtMost-trans}
use Rattle.conductance_bounds.proofs.Common.{plus-AtMost, times-AtMost, over-AtMost, ten_pos, cross_of, Sd, value, IsDown, IsUp, IsNear, HasSize, Span, IsOrdered, reach, mul-pos, AreOperands}
use Rattle.conductance_bounds.proofs.Common.{one_rounded, AreBounds, Lower, Number, Product, Quotient, Ratio, Same, Sum, Term, Upper, Within, bound, refl, rounded_decimal, IsSd, ◌∙◌, IsWithin}
use Rattle.conductance_bounds.proofs.{Sides.positive_value, SpanBounds.exact_rounded}

near_by : (e : ℤ) (n : ℕ) → unsigned_abs e ≤ n → IsNear e n
near_by (pos k) n h = record { above = omega (arith, ints, h); below = omega (arith, ints, h) }
near_by (negsuc k) n h = record { above = omega (arith, ints, h); below = omega (arith, ints, h) }

by_near : (e : ℤ) (n : ℕ) → IsNear e n → unsigned_abs e ≤ n
by_near (pos k) n h = omega (arith, ints, h.below)
by_near (negsuc k) n h = omega (arith, ints, h.above)

pub low_near : (x : Span) (n : ℕ) → reach x ≤ n → IsNear x.lo.e n
unfolding reach
low_near x n h = near_by x.lo.e n (omega (arith, h))

pub high_near : (x : Span) (n : ℕ) → reach x ≤ n → IsNear x.hi.e n
unfolding reach
high_near x n h = near_by x.hi.e n (omega (arith, h))

pub reach_within : (x : Span) (n : ℕ) → IsNear x.lo.e n → IsNear x.hi.e n → reach x ≤ n
unfolding reach
reach_within x n h k = omega (arith, by_near x.lo.e n h, by_near x.hi.e n k)

-- both decimals of two spans as operands, of one side and of both
pub spans_are_operands : (x y : Span) → IsOrdered x → IsOrdered y → reach x + reach y ≤ 10000 → AreOperands x.lo y.lo × AreOperands x.hi y.hi
spans_are_operands x y p q h = (
  record { a_decimal = p.low; b_decimal = q.low; a_near = low_near x 10000 (omega (arith, h)); b_near = low_near y 10000 (omega (arith, h)) },
  record { a_decimal = p.high; b_decimal = q.high; a_near = high_near x 10000 (omega (arith, h)); b_near = high_near y 10000 (omega (arith, h)) },
)

pub cross_operands : (x y : Span) → IsOrdered x → IsOrdered y → reach x + reach y ≤ 10000 → AreOperands x.lo y.hi × AreOperands x.hi y.lo
cross_operands x y p q h = let (l, r) = spans_are_operands x y p q h in (
  record { a_decimal = l.a_decimal; b_decimal = r.b_decimal; a_near = l.a_near; b_near = r.b_near },
  record { a_decimal = r.a_decimal; b_decimal = l.b_decimal; a_near = r.a_near; b_near = l.b_near },
)

product_near : (a b e : ℤ) (m n : ℕ) → IsNear a m → IsNear b n → IsWithin e (a +ℤ b +ℤ pos 17) (a +ℤ b +ℤ pos 18) → IsNear e (m + n + 18)
product_near a b e m n p q w = record { above = omega (arith, ints, clamps, w.above, p.above, q.above); below = omega (arith, ints, clamps, w.below, p.below, q.below) }

quotient_near : (a b e : ℤ) (m n : ℕ) → IsNear a m → IsNear b n → IsWithin e (a -ℤ b -ℤ pos 18) (a -ℤ b -ℤ pos 17) → IsNear e (m + n + 18)
quotient_near a b e m n p q w = record { above = omega (arith, ints, clamps, w.above, p.above, q.below); below = omega (arith, ints, clamps, w.below, p.below, q.above) }

sum_near : (a b e : ℤ) (m n : ℕ) → IsNear a m → IsNear b n → IsWithin e (int_min a b) (int_max a b +ℤ pos 1) → IsNear e (m + n + 18)
sum_near a b e m n p q w = record {
  above = omega (arith, ints, clamps, w.above, p.above, q.above);
  below = omega (arith, ints, clamps, w.below, p.below, q.below);
}

self_low : (x : Span) → IsNear x.lo.e (reach x)
self_low x = low_near x (reach x) (omega arith)

self_high : (x : Span) → IsNear x.hi.e (reach x)
self_high x = high_near x (reach x) (omega arith)

pub product_reach : (a b r : Span) → IsWithin r.lo.e (a.lo.e +ℤ b.lo.e +ℤ pos 17) (a.lo.e +ℤ b.lo.e +ℤ pos 18) →
    IsWithin r.hi.e (a.hi.e +ℤ b.hi.e +ℤ pos 17) (a.hi.e +ℤ b.hi.e +ℤ pos 18) → reach r ≤ reach a + reach b + 18
product_reach a b r l h = reach_within r _ (product_near _ _ _ _ _ (self_low a) (self_low b) l) (product_near _ _ _ _ _ (self_high a) (self_high b) h)

pub quotient_reach : (a b r : Span) → IsWithin r.lo.e (a.lo.e -ℤ b.hi.e -ℤ pos 18) (a.lo.e -ℤ b.hi.e -ℤ pos 17) →
    IsWithin r.hi.e (a.hi.e -ℤ b.lo.e -ℤ pos 18) (a.hi.e -ℤ b.lo.e -ℤ pos 17) → reach r ≤ reach a + reach b + 18
quotient_reach a b r l h = reach_within r _ (quotient_near _ _ _ _ _ (self_low a) (self_high b) l) (quotient_near _ _ _ _ _ (self_high a) (self_low b) h)

pub sum_reach : (a b r : Span) → IsWithin r.lo.e (int_min a.lo.e b.lo.e) (int_max a.lo.e b.lo.e +ℤ pos 1) →
    IsWithin r.hi.e (int_min a.hi.e b.hi.e) (int_max a.hi.e b.hi.e +ℤ pos 1) → reach r ≤ reach a + reach b + 18
sum_reach a b r l h = reach_within r _ (sum_near _ _ _ _ _ (self_low a) (self_low b) l) (sum_near _ _ _ _ _ (self_high a) (self_high b) h)

-- a number of the input
pub number_reach : (x : Span) (d : ℤ) → IsNear d 40 → IsWithin x.lo.e (d -ℤ pos 17) d → IsWithin x.hi.e (d -ℤ pos 17) d → reach x ≤ 57
number_reach x d h l u = reach_within x 57
    (record { above = omega (arith, ints, clamps, h.above, l.above); below = omega (arith, ints, clamps, h.below, l.below) })
    (record { above = omega (arith, ints, clamps, h.above, u.above); below = omega (arith, ints, clamps, h.below, u.below) })

-- two decimals of a size
pub size_reach : (x : Span) (n : ℕ) → HasSize x.lo (neg_ℤ (pos n)) (pos n) → HasSize x.hi (neg_ℤ (pos n)) (pos n) → reach x ≤ n
size_reach x n l h = reach_within x n (record { above = l.above; below = l.below }) (record { above = h.above; below = h.below })

-- what is not below a positive decimal is positive
pub positive_above : (x y : Sd) → AtMost (value x) (value y) → 0 < x.m → 0 < y.m
positive_above x y h p = grind (arith, ten_pos, cross_of, zero, mul-pos)

pub sum_ordered : (a b r : Span) → IsOrdered a → IsOrdered b → IsDown r.lo (plus (value a.lo) (value b.lo)) → IsUp r.hi (plus (value a.hi) (value b.hi)) → IsOrdered r
sum_ordered a b r p q l h = record { low = l.decimal; high = h.decimal; order = AtMost-trans l.at_most (AtMost-trans (plus-AtMost p.order q.order) h.at_least) }

pub product_ordered : (a b r : Span) → IsOrdered a → IsOrdered b → IsDown r.lo (times (value a.lo) (value b.lo)) → IsUp r.hi (times (value a.hi) (value b.hi)) → IsOrdered r
product_ordered a b r p q l h = record { low = l.decimal; high = h.decimal; order = AtMost-trans l.at_most (AtMost-trans (times-AtMost p.order q.order) h.at_least) }

pub quotient_ordered : (a b r : Span) → IsOrdered a → IsOrdered b → 0 < b.lo.m → IsDown r.lo (over (value a.lo) (value b.hi)) → IsUp r.hi (over (value a.hi) (value b.lo)) → IsOrdered r
quotient_ordered a b r p q some l h = record {
  low = l.decimal;
  high = h.decimal;
  order = AtMost-trans l.at_most (AtMost-trans (over-AtMost (positive_value b.hi (positive_above b.lo b.hi q.order some)) (positive_value b.lo some) p.order q.order) h.at_least);
}

-- the bounds of a sum, of a product and of a quotient, by those of its parts
pub sum_bounds : (t u : Term) (a b r : Span) → AreBounds t a → AreBounds u b → IsDown r.lo (plus (value a.lo) (value b.lo)) → IsUp r.hi (plus (value a.hi) (value b.hi)) → AreBounds (Sum t u) r
unfolding bound
sum_bounds t u a b r p q l h = record {
  lower = one_rounded Lower r.lo _ l ∙ (λ i. rounded_decimal Lower (plus (value (p.lower i)) (value (q.lower i))));
  upper = one_rounded Upper r.hi _ h ∙ (λ i. rounded_decimal Upper (plus (value (p.upper i)) (value (q.upper i))));
}

pub product_bounds : (t u : Term) (a b r : Span) → AreBounds t a → AreBounds u b → IsDown r.lo (times (value a.lo) (value b.lo)) →
    IsUp r.hi (times (value a.hi) (value b.hi)) → AreBounds (Product t u) r
unfolding bound
product_bounds t u a b r p q l h = record {
  lower = one_rounded Lower r.lo _ l ∙ (λ i. rounded_decimal Lower (times (value (p.lower i)) (value (q.lower i))));
  upper = one_rounded Upper r.hi _ h ∙ (λ i. rounded_decimal Upper (times (value (p.upper i)) (value (q.upper i))));
}

pub quotient_bounds : (t u : Term) (a b r : Span) → AreBounds t a → AreBounds u b → IsDown r.lo (over (value a.lo) (value b.hi)) →
    IsUp r.hi (over (value a.hi) (value b.lo)) → AreBounds (Quotient t u) r
unfolding bound
quotient_bounds t u a b r p q l h = record {
  lower = one_rounded Lower r.lo _ l ∙ (λ i. rounded_decimal Lower (over (value (p.lower i)) (value (q.upper i))));
  upper = one_rounded Upper r.hi _ h ∙ (λ i. rounded_decimal Upper (over (value (p.upper i)) (value (q.lower i))));
}

-- those of a number of the input, and of a number between two decimals
pub number_bounds : (x : Sd) (f : Ratio) → IsSd x → Same (value x) f → AreBounds (Number f) (record { lo = x; hi = x })
unfolding bound
number_bounds x f d same = record { lower = exact_rounded Lower x f d same; upper = exact_rounded Upper x f d same }

pub within_bounds : (lo hi : Sd) (f : Ratio) → AreBounds (Within lo hi f) (record { lo = lo; hi = hi })
unfolding bound
within_bounds lo hi f = record { lower = refl; upper = refl }
