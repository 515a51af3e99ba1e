use Rattle.std.specs.Prelude.{◌≡◌, ℕ, suc, List, [], ◌∷◌, ℤ, pos, neg_ℤ, ◌+ℤ◌, ◌*ℤ◌, ◌≤ℤ◌, ◌+◌, ◌*◌}
use Rattle.decimal_input.specs.Ratios.{Ratio}

-- A fraction: num over less + 1. Heads and flows are fractions. (Textbook.)
pub record Fraction : Type 0 where
  pub num : ℤ
  pub less : ℕ

-- The denominator, which is never 0.
abbrev pub den : Fraction → ℕ
den f = suc f.less

-- The whole number z as a fraction.
abbrev pub whole : ℤ → Fraction
whole z = record { num = z; less = 0 }

-- A fraction that isn't negative, as a fraction.
abbrev pub as_fraction : Ratio → Fraction
as_fraction r = record { num = pos r.num; less = r.less }

-- f with the other sign.
abbrev pub opposite : Fraction → Fraction
opposite f = record { num = neg_ℤ f.num; less = f.less }

-- f + g
abbrev pub plus : Fraction → Fraction → Fraction
plus f g = record { num = f.num *ℤ pos (den g) +ℤ g.num *ℤ pos (den f); less = f.less * g.less + f.less + g.less }

-- f * g
abbrev pub times : Fraction → Fraction → Fraction
times f g = record { num = f.num *ℤ g.num; less = f.less * g.less + f.less + g.less }

-- f ≤ g
pub record AtMost (f g : Fraction) : Type 0 where
  pub at_most : (f.num *ℤ pos (den g)) ≤ℤ (g.num *ℤ pos (den f))

-- f and g are the same number
pub record Same (f g : Fraction) : Type 0 where
  pub same : f.num *ℤ pos (den g) ≡ g.num *ℤ pos (den f)

-- The sum of f x over a list.
abbrev pub fraction_total : {X : Type 0} → (X → Fraction) → List X → Fraction
fraction_total f [] = whole (pos 0)
fraction_total f (x ∷ xs) = plus (f x) (fraction_total f xs)

-- f is z over D
pub record IsOver (D : ℕ) (f : Fraction) (z : ℤ) : Type 0 where
  pub is : f.num *ℤ pos D ≡ z *ℤ pos (den f)
