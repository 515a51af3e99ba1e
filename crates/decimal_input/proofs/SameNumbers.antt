-- Sums, products and quotients of ratios that are the same number.
use Rattle.decimal_input.proofs.Common.{◌≡◌, ℕ, ◌+◌, ◌*◌, ◌<◌, subst, refl, ap, ◌∙◌, arith, mul-pos, Ratio, den, ratio, plus, times, over, AtMost, Same}
use Rattle.decimal_input.proofs.Orders.{Same-AtMost, Same-back, plus-AtMost, times-AtMost, over-AtMost, num_times, num_plus, num_over}

pub Same-both : {f g : Ratio} → AtMost f g → AtMost g f → Same f g
Same-both p q = record { cross = omega (arith, p.cross, q.cross) }

pub Same-self : (f : Ratio) → Same f f
Same-self f = record { cross = refl }

pub Same-of : {f g : Ratio} → f ≡ g → Same f g
Same-of {f} e = subst (Same f) e (Same-self f)

pub plus-comm : (f g : Ratio) → plus f g ≡ plus g f
unfolding plus
plus-comm f g =
    let top : f.num * den g + g.num * den f ≡ g.num * den f + f.num * den g = omega arith in
    let bottom : den f * den g ≡ den g * den f = omega arith in
    ap (λ (n : ℕ). ratio n (den f * den g)) top ∙ ap (λ (d : ℕ). ratio (g.num * den f + f.num * den g) d) bottom

pub times-Same : {a b c d : Ratio} → Same a b → Same c d → Same (times a c) (times b d)
times-Same p q = Same-both (times-AtMost (Same-AtMost p) (Same-AtMost q)) (times-AtMost (Same-back p) (Same-back q))

pub plus-Same : {a b c d : Ratio} → Same a b → Same c d → Same (plus a c) (plus b d)
plus-Same p q = Same-both (plus-AtMost (Same-AtMost p) (Same-AtMost q)) (plus-AtMost (Same-back p) (Same-back q))

pub over-Same : {a b c d : Ratio} → 0 < c.num → 0 < d.num → Same a b → Same c d → Same (over a c) (over b d)
over-Same hc hd p q = Same-both (over-AtMost hc hd (Same-AtMost p) (Same-back q)) (over-AtMost hd hc (Same-back p) (Same-AtMost q))

pub times-positive : (f g : Ratio) → 0 < f.num → 0 < g.num → 0 < (times f g).num
times-positive f g p q = rw num_times (mul-pos p q)

pub plus-positive : (f g : Ratio) → 0 < f.num → 0 < (plus f g).num
plus-positive f g p = let r : 0 < f.num * den g = mul-pos p (omega arith) in rw num_plus (omega (arith, r))

pub over-positive : (f g : Ratio) → 0 < f.num → 0 < (over f g).num
over-positive f g p = let r : 0 < f.num * den g = mul-pos p (omega arith) in rw num_over r
