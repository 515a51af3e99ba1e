use Rattle.decimal_input.proofs.Common.{◌≡◌, ℕ, suc, ◌+◌, ◌*◌, ◌≤◌, ◌<◌, arith, refl, mul-le-mul, Ratio, den, ratio, plus, times, over, AtMost, Below, Same}
use Rattle.decimal_input.proofs.Cross.{cross_trans, cross_below, cross_at_most, cross_times, cross_plus, cross_same}

pub AtMost-trans : {f g h : Ratio} → AtMost f g → AtMost g h → AtMost f h
AtMost-trans {f} {g} {h} p q = record { cross = cross_trans f.num (den f) g.num (den g) h.num (den h) (omega arith) p.cross q.cross }

pub Below-AtMost : {f g h : Ratio} → Below f g → AtMost g h → Below f h
Below-AtMost {f} {g} {h} p q = record { cross = cross_below f.num (den f) g.num (den g) h.num (den h) (omega arith) p.cross q.cross }

pub AtMost-Below : {f g h : Ratio} → AtMost f g → Below g h → Below f h
AtMost-Below {f} {g} {h} p q = record { cross = cross_at_most f.num (den f) g.num (den g) h.num (den h) (omega arith) p.cross q.cross }

pub AtMost-refl : (f : Ratio) → AtMost f f
AtMost-refl f = record { cross = omega arith }

pub Same-AtMost : {f g : Ratio} → Same f g → AtMost f g
Same-AtMost p = record { cross = omega (arith, p.cross) }

pub Same-back : {f g : Ratio} → Same f g → AtMost g f
Same-back p = record { cross = omega (arith, p.cross) }

pub product_positive : (a b : ℕ) → 0 < suc a * suc b
product_positive a b = omega arith

pub num_times : (f g : Ratio) → (times f g).num ≡ f.num * g.num
unfolding times ratio
num_times f g = refl

pub den_times : (f g : Ratio) → suc (times f g).less ≡ den f * den g
unfolding times ratio
den_times f g = omega (arith, product_positive f.less g.less)

pub num_plus : (f g : Ratio) → (plus f g).num ≡ f.num * den g + g.num * den f
unfolding plus ratio
num_plus f g = refl

pub den_plus : (f g : Ratio) → suc (plus f g).less ≡ den f * den g
unfolding plus ratio
den_plus f g = omega (arith, product_positive f.less g.less)

pub num_over : (f g : Ratio) → (over f g).num ≡ f.num * den g
unfolding over ratio
num_over f g = refl

pub den_over : (f g : Ratio) → 0 < g.num → suc (over f g).less ≡ den f * g.num
unfolding over ratio
den_over f g h = let p : 1 ≤ suc f.less = omega arith in let k : 0 < suc f.less * g.num = omega (arith, mul-le-mul p h) in omega arith

pub times-AtMost : {a b c d : Ratio} → AtMost a b → AtMost c d → AtMost (times a c) (times b d)
times-AtMost {a} {b} {c} {d} p q = grind (arith, num_times, den_times, cross_times)

pub plus-AtMost : {a b c d : Ratio} → AtMost a b → AtMost c d → AtMost (plus a c) (plus b d)
plus-AtMost {a} {b} {c} {d} p q = grind (arith, num_plus, den_plus, cross_plus)

-- a greater numerator over a lesser divisor
pub over-AtMost : {a b c d : Ratio} → 0 < c.num → 0 < d.num → AtMost a b → AtMost d c → AtMost (over a c) (over b d)
over-AtMost {a} {b} {c} {d} hc hd p q = grind (arith, num_over, den_over, cross_times)

pub Same-trans : {f g h : Ratio} → Same f g → Same g h → Same f h
Same-trans {f} {g} {h} p q = record { cross = cross_same f.num (den f) g.num (den g) h.num (den h) (omega arith) p.cross q.cross }

pub Same-sym : {f g : Ratio} → Same f g → Same g f
Same-sym p = record { cross = omega (arith, p.cross) }
