-- Vertical conductances through one material, and the vertical conductivity of a cell.
use Rattle.flow_equations.proofs.Common.{◌≡◌, ℕ, ◌+◌, ◌*◌, ◌<◌, ◌⊎◌, inl, inr, cond, ap, arith, mul-pos, ◌≤◌, refl, sym, ◌∙◌, size, Ratio, over, ratio, scaled_ratio, up, plus, times, Same, AtMost}
use Rattle.flow_equations.proofs.Common.{Same-trans, num_over, num_times, den_times, num_plus, den_plus, den_over, FlowModel, area, thickness, bed_thickness, hk_at, vka_at, vkcb_at}
use Rattle.flow_equations.proofs.Common.{vertical_conductivity, two, vertical_half, vertical_conductance, IsPositive, one, distance, IsOneMaterial, HasVerticalConductivity, plus-Same, over-Same}
use Rattle.flow_equations.proofs.Common.{Same-self, Same-of, Dec, one-le-pow}
use Rattle.decimal_input.specs.Ratios.{den}

-- What the terms of fractions come to, as a numerator and a denominator, so that an equation of two terms is one of products.
-- f is n over d
pub record IsValue (f : Ratio) (n d : ℕ) : Type 0 where
  pub num : f.num ≡ n
  pub bottom : den f ≡ d

pub own_value : (f : Ratio) → IsValue f f.num (den f)
own_value f = record { num = refl; bottom = refl }

pub value_one : IsValue one 1 1
unfolding ratio
value_one = record { num = refl; bottom = refl }

pub value_two : IsValue two 2 1
unfolding ratio
value_two = record { num = refl; bottom = refl }

pub value_times : {f g : Ratio} {a x b y : ℕ} → IsValue f a x → IsValue g b y → IsValue (times f g) (a * b) (x * y)
value_times {f} {g} p q = record { num = num_times f g ∙ (λ i. p.num i * q.num i); bottom = den_times f g ∙ (λ i. p.bottom i * q.bottom i) }

pub value_plus : {f g : Ratio} {a x b y : ℕ} → IsValue f a x → IsValue g b y → IsValue (plus f g) (a * y + b * x) (x * y)
value_plus {f} {g} p q = record { num = num_plus f g ∙ (λ i. p.num i * q.bottom i + q.num i * p.bottom i); bottom = den_plus f g ∙ (λ i. p.bottom i * q.bottom i) }

pub value_over : {f g : Ratio} {a x b y : ℕ} → 0 < b → IsValue f a x → IsValue g b y → IsValue (over f g) (a * y) (x * b)
value_over {f} {g} h p q = record { num = num_over f g ∙ (λ i. p.num i * q.bottom i); bottom = den_over f g (omega (arith, h, q.num)) ∙ (λ i. p.bottom i * q.num i) }

pub same_by : {f g : Ratio} {a x b y : ℕ} → IsValue f a x → IsValue g b y → a * y ≡ b * x → Same f g
same_by p q e = record { cross = (λ i. p.num i * q.bottom i) ∙ e ∙ (λ i. sym q.num i * sym p.bottom i) }

pub cross_by : {f g : Ratio} {a x b y : ℕ} → IsValue f a x → IsValue g b y → Same f g → a * y ≡ b * x
cross_by p q s = (λ i. sym p.num i * sym q.bottom i) ∙ s.cross ∙ (λ i. q.num i * p.bottom i)

pub at_most_by : {f g : Ratio} {a x b y : ℕ} → IsValue f a x → IsValue g b y → a * y ≤ b * x → AtMost f g
at_most_by {f} {g} {a} {x} {b} {y} p q e = grind (arith)

-- a number of the input that is above 0
pub size_positive : (d : Dec) → IsPositive d → 0 < (size d).num
unfolding scaled_ratio ratio
size_positive d h = let r = one-le-pow (up d.exp) 10 (omega arith) in let q = h.positive in grind arith

-- what is the same as a number above 0 is above 0
above_zero : (k n d m : ℕ) → 0 < k → 0 < d → n * m ≡ k * d → 0 < n
above_zero k n d m some under e = grind (arith, mul-pos)

-- a length over one conductivity: two of them in a row
join : (a x b y k z : ℕ) → ((a * z) * (y * k) + (b * z) * (x * k)) * ((x * y) * k) ≡ ((a * y + b * x) * z) * ((x * k) * (y * k))
join a x b y k z = omega arith

joined : (k f g : Ratio) → 0 < k.num → Same (plus (over f k) (over g k)) (over (plus f g) k)
joined k f g some = same_by (value_plus (value_over some (own_value f) (own_value k)) (value_over some (own_value g) (own_value k)))
    (value_over some (value_plus (own_value f) (own_value g)) (own_value k)) (join f.num (den f) g.num (den g) k.num (den k))

-- A / (D / k) = k A / D
turned_over : (k A D : Ratio) → 0 < k.num → 0 < D.num → Same (over A (over D k)) (over (times k A) D)
turned_over k A D some room =
    let inner = value_over some (own_value D) (own_value k) in
    same_by (value_over (mul-pos room (omega arith)) (own_value A) inner) (value_over room (value_times (own_value k) (own_value A)) (own_value D)) (omega arith)

nothing_over : (f g h : Ratio) → f.num ≡ 0 → Same (over f g) (over f h)
nothing_over f g h e = record { cross = rw (num_over, num_over, e) (omega arith) }

module _ (m : FlowModel) (k : Ratio) (a b : ℕ) (h : IsOneMaterial m k a b) where
  conducts : (f : Ratio) → Same f k → 0 < f.num
  conducts f s = above_zero k.num f.num (den f) (den k) h.positive (omega arith) s.cross

  of_half : (c : ℕ) → Same (vertical_conductivity m c) k → Same (vertical_half m c) (over (over (thickness m c) two) k)
  unfolding vertical_half
  of_half c s = over-Same (conducts (vertical_conductivity m c) s) h.positive (Same-self (over (thickness m c) two)) s

  of_bed : ((bed_thickness m a).num ≡ 0) ⊎ Same (size (vkcb_at m a)) k → Same (over (bed_thickness m a) (size (vkcb_at m a))) (over (bed_thickness m a) k)
  of_bed (inl e) = nothing_over (bed_thickness m a) (size (vkcb_at m a)) k e
  of_bed (inr s) = over-Same (conducts (size (vkcb_at m a)) s) h.positive (Same-self (bed_thickness m a)) s

  resistance : Same (plus (plus (vertical_half m a) (over (bed_thickness m a) (size (vkcb_at m a)))) (vertical_half m b)) (over (distance m a b) k)
  resistance =
      let upper = over (thickness m a) two in
      let lower = over (thickness m b) two in
      Same-trans (plus-Same (plus-Same (of_half a h.upper) (of_bed h.bed)) (of_half b h.lower))
      (Same-trans (plus-Same (joined k upper (bed_thickness m a) h.positive) (Same-self (over lower k))) (joined k (plus upper (bed_thickness m a)) lower h.positive))

  room : 0 < (distance m a b).num
  room =
      let upper = value_over (omega (arith, value_two.num)) (own_value (thickness m a)) value_two in
      let whole = value_plus (value_plus upper (own_value (bed_thickness m a))) (value_over (omega (arith, value_two.num)) (own_value (thickness m b)) value_two) in
      omega (
        arith,
        whole.num,
        some (thickness m a).num (den (bed_thickness m a)) (den (thickness m b) * 2)
            ((bed_thickness m a).num * (den (thickness m a) * 2)) (((thickness m b).num * 1) * ((den (thickness m a) * 2) * den (bed_thickness m a))) h.thick
            (omega arith) (omega arith),
      )
    where
      some : (t x y r s : ℕ) → 0 < t → 0 < x → 0 < y → 0 < ((t * 1) * x + r) * y + s
      some t x y r s p q w = let e : 0 < (t * 1) * x = product t x p q in let f : 0 < ((t * 1) * x + r) * y = mul-pos (omega (arith, e)) w in omega (arith, f)
        where
          product : (a b : ℕ) → 0 < a → 0 < b → 0 < (a * 1) * b
          product a b p q = grind arith

  pub meets_darcy_downwards : Same (vertical_conductance m a b) (over (times k (area m a)) (distance m a b))
  unfolding vertical_conductance area
  meets_darcy_downwards =
      let sum = resistance in
      let across : 0 < (distance m a b).num * den k = mul-pos room (omega arith) in
      let above : 0 < (over (distance m a b) k).num = omega (arith, (value_over h.positive (own_value (distance m a b)) (own_value k)).num, across) in
      Same-trans (over-Same (above_zero (over (distance m a b) k).num _
      (den (plus (plus (vertical_half m a) (over (bed_thickness m a) (size (vkcb_at m a)))) (vertical_half m b))) (den (over (distance m a b) k)) above
      (omega arith) sum.cross) above (Same-self (area m a)) sum) (turned_over k (area m a) (distance m a b) h.positive room)

pub vertical_conductivity_of : (m : FlowModel) (c : ℕ) → HasVerticalConductivity m c
vertical_conductivity_of m c = record {
  given = (λ e. Same-of (ap (λ b. cond b (over (size (hk_at m c)) (size (vka_at m c))) (size (vka_at m c))) e));
  ratio = (λ e h.
      let hk = size (hk_at m c) in
      let vka = size (vka_at m c) in
      let same = ap (λ b. times (cond b (over hk vka) vka) vka) e in
      Same-trans (Same-of same) (same_by (value_times (value_over (size_positive (vka_at m c) h) (own_value hk) (own_value vka)) (own_value vka)) (own_value hk) (omega arith)));
}
