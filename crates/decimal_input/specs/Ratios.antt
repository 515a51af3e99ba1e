use Rattle.std.specs.Prelude.{◌≡◌, ℕ, suc, ◌+◌, ◌*◌, ◌-◌, ◌≤◌, ◌<◌}

-- A fraction that isn't negative: num over less + 1. Lengths, conductivities and conductances
-- are such fractions. (Textbook.)
pub record Ratio : Type 0 where
  pub num : ℕ
  pub less : ℕ

-- The denominator, which is never 0.
abbrev pub den : Ratio → ℕ
den f = suc f.less

-- n over d, for d above 0
unfoldable pub ratio : ℕ → ℕ → Ratio
ratio n d = record { num = n; less = d - 1 }

-- f + g
unfoldable pub plus : Ratio → Ratio → Ratio
plus f g = ratio (f.num * den g + g.num * den f) (den f * den g)

-- f * g
unfoldable pub times : Ratio → Ratio → Ratio
times f g = ratio (f.num * g.num) (den f * den g)

-- f / g, for g above 0
unfoldable pub over : Ratio → Ratio → Ratio
over f g = ratio (f.num * den g) (den f * g.num)

-- f ≤ g
pub record AtMost (f g : Ratio) : Type 0 where
  pub cross : f.num * den g ≤ g.num * den f

-- f < g
pub record Below (f g : Ratio) : Type 0 where
  pub cross : f.num * den g < g.num * den f

-- f and g are the same number
pub record Same (f g : Ratio) : Type 0 where
  pub cross : f.num * den g ≡ g.num * den f
