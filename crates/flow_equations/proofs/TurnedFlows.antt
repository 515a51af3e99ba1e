-- Flows over branches change their sign with the heads.
use Rattle.flow_equations.proofs.Common.{◌≡◌, ℕ, ◌*◌, ◌<◌, sym, arith, ℤ, pos, neg_ℤ, ◌-ℤ◌, ◌*ℤ◌, mul-pos, ints, Ratio, Fraction, den, as_fraction, opposite, IsOver, IsShare, diffs, as_diff}
use Rattle.flow_equations.proofs.Common.{same_diff, mul_assoc, minus, IsOver-times, IsOver-minus, IsOver-negated, IsOver-signed, same_over, FlowsChangeSign, mul_neg}
use Rattle.decimal_input.specs.{Ratios.den as ratio_den, Fractions.times, Fractions.Same}

-- two fractions over the product of their denominators
pub over_first : (f g : Fraction) → IsOver (den f * den g) f (f.num *ℤ pos (den g))
over_first f g = record { is = crossed f.num (pos (den f)) (pos (den g)) }
  where
    crossed : (a b c : ℤ) → a *ℤ (b *ℤ c) ≡ (a *ℤ c) *ℤ b
    crossed a b c = rw (as_diff a, as_diff b, as_diff c) (simp diffs (same_diff _ _ _ _ (omega arith)))

pub over_second : (f g : Fraction) → IsOver (den f * den g) g (g.num *ℤ pos (den f))
over_second f g = record { is = sym (mul_assoc g.num (pos (den f)) (pos (den g))) }

pub own_share : (r : Ratio) → IsShare (ratio_den r) r r.num
own_share r = record { is = omega arith }

-- C * (f - g) over one denominator
flow_over : (r : Ratio) (m : ℕ) (f g : Fraction) (a b : ℤ) → IsOver m f a → IsOver m g b → IsOver (ratio_den r * m) (times (as_fraction r) (minus f g)) (pos r.num *ℤ (a -ℤ b))
flow_over r m f g a b p q = IsOver-times (ratio_den r) m (as_fraction r) (minus f g) (pos r.num) (a -ℤ b) (IsOver-signed (ratio_den r) r r.num (own_share r)) (IsOver-minus m f g a b p q)

module _ (r : Ratio) (f g : Fraction) where
  abbrev m : ℕ
  m = den f * den g

  abbrev a : ℤ
  a = f.num *ℤ pos (den g)

  abbrev b : ℤ
  b = g.num *ℤ pos (den f)

  some : 0 < ratio_den r * m
  some = mul-pos (omega arith) (mul-pos (omega arith) (omega arith))

  abbrev flow : Fraction
  flow = times (as_fraction r) (minus f g)

  whole : IsOver (ratio_den r * m) (opposite flow) (neg_ℤ (pos r.num *ℤ (a -ℤ b)))
  whole = IsOver-negated (ratio_den r * m) flow (pos r.num *ℤ (a -ℤ b)) (flow_over r m f g a b (over_first f g) (over_second f g))

  pub signs_turned : Same (times (as_fraction r) (minus (opposite f) (opposite g))) (opposite flow)
  signs_turned = same_over (ratio_den r * m) _ _ _ _ some (flow_over r m (opposite f) (opposite g) (neg_ℤ a) (neg_ℤ b) (IsOver-negated m f a (over_first f g))
      (IsOver-negated m g b (over_second f g))) whole (turned (pos r.num) a b)
    where
      turned : (c a b : ℤ) → c *ℤ (neg_ℤ a -ℤ neg_ℤ b) ≡ neg_ℤ (c *ℤ (a -ℤ b))
      turned c a b = let e : neg_ℤ a -ℤ neg_ℤ b ≡ neg_ℤ (a -ℤ b) = omega (arith, ints) in rw e (mul_neg c (a -ℤ b))

  pub ends_turned : Same (times (as_fraction r) (minus g f)) (opposite flow)
  ends_turned = same_over (ratio_den r * m) _ _ _ _ some (flow_over r m g f b a (over_second f g) (over_first f g)) whole (turned (pos r.num) a b)
    where
      turned : (c a b : ℤ) → c *ℤ (b -ℤ a) ≡ neg_ℤ (c *ℤ (a -ℤ b))
      turned c a b = let e : b -ℤ a ≡ neg_ℤ (a -ℤ b) = omega (arith, ints) in rw e (mul_neg c (a -ℤ b))

pub flows_change_sign : FlowsChangeSign
flows_change_sign = record {
  links = (λ h v x. signs_turned x.conductance (h x.cell) v);
  fixed = (λ v x. signs_turned x.conductance x.head v);
  ends = (λ h v x y. ends_turned x.conductance (h x.cell) v);
}
