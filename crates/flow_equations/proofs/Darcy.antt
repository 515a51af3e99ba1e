-- Conductances by the textbook.
use Rattle.flow_equations.proofs.Common.{◌≡◌, ℕ, zero, suc, ◌+◌, ◌*◌, ◌<◌, ◌≤◌, sym, ap, ◌∙◌, arith, mul-pos, mul-le-mul_left, size, Ratio, times, over, Same, AtMost, Same-trans, Same-of, plus-comm}
use Rattle.flow_equations.proofs.Common.{FlowModel, delr_at, delc_at, hk_at, hani_at, thickness, dec_at, one, half, in_a_row, row_conductance, column_conductance, IsSameFromBothEnds, AreAlike}
use Rattle.flow_equations.proofs.Common.{AreAlikeInAColumn, IsBetweenHalves}
use Rattle.decimal_input.specs.Ratios.{den}
use Rattle.flow_equations.proofs.Downwards.{own_value, value_one, value_two, value_times, value_plus, value_over, same_by, cross_by, at_most_by, size_positive}

-- two resistances in either order
in_turn : (r q : Ratio) → in_a_row r q ≡ in_a_row q r
unfolding in_a_row
in_turn r q = ap (over one) (plus-comm r q)

pub from_both_ends : (m : FlowModel) → IsSameFromBothEnds m
unfolding row_conductance column_conductance
from_both_ends m = record {
  row = (λ a b e. let width = ap (λ i. size (dec_at m.grid.delc i)) e in
      Same-of (in_turn _ _ ∙ (λ i. in_a_row (half (size (delr_at m b)) (width i) (size (hk_at m b)) (thickness m b)) (half (size (delr_at m a)) (width i) (size (hk_at m a)) (thickness m a)))));
  column = (λ a b e. let width = ap (λ j. size (dec_at m.grid.delr j)) e in
      Same-of (in_turn _ _ ∙ (λ i. in_a_row (half (size (delc_at m b)) (width i) (times (size (hk_at m b)) (size (hani_at m b))) (thickness m b))
      (half (size (delc_at m a)) (width i) (times (size (hk_at m a)) (size (hani_at m a))) (thickness m a)))));
}

-- d / (2 w k t), twice in a row, is one over d / (w k t)
equal_halves : (d x w y k z t u : ℕ) →
    (1 * ((x * (((2 * w) * k) * t)) * (x * (((2 * w) * k) * t)))) * (((z * u) * y) * d)
    ≡ (((k * t) * w) * x) * (1 * ((d * (((1 * y) * z) * u)) * (x * (((2 * w) * k) * t)) + (d * (((1 * y) * z) * u)) * (x * (((2 * w) * k) * t))))
equal_halves d x w y k z t u = omega arith

pub darcy_of : (d w k t : Ratio) → 0 < d.num → 0 < w.num → 0 < k.num → 0 < t.num → Same (in_a_row (half d w k t) (half d w k t)) (over (times (times k t) w) d)
unfolding in_a_row half
darcy_of d w k t hd hw hk ht =
    let divisor = value_times (value_times (value_times value_two (own_value w)) (own_value k)) (own_value t) in
    let some : 0 < ((2 * w.num) * k.num) * t.num = mul-pos (mul-pos (omega (arith, hw)) hk) ht in
    let resistance = value_over some (own_value d) divisor in
    let above : 0 < d.num * (((1 * den w) * den k) * den t) = mul-pos hd (mul-pos (mul-pos (omega arith) (omega arith)) (omega arith)) in
    let below : 0 < den d * (((2 * w.num) * k.num) * t.num) = mul-pos (omega arith) some in
    let sum = value_plus resistance resistance in
    same_by (value_over (let r = mul-pos above below in omega (arith, r)) value_one sum)
    (value_over hd (value_times (value_times (own_value k) (own_value t)) (own_value w)) (own_value d))
    (equal_halves d.num (den d) w.num (den w) k.num (den k) t.num (den t))

pub meets_darcy : (m : FlowModel) (a b : ℕ) → AreAlike m a b → Same (row_conductance m a b) (over (times (times (size (hk_at m a)) (thickness m a)) (size (delc_at m a))) (size (delr_at m a)))
unfolding row_conductance
meets_darcy m a b h =
    let same : row_conductance m a b ≡ in_a_row (half (size (delr_at m a)) (size (delc_at m a)) (size (hk_at m a)) (thickness m a))
    (half (size (delr_at m a)) (size (delc_at m a)) (size (hk_at m a)) (thickness m a)) =
    λ i. in_a_row (half (size (delr_at m a)) (size (delc_at m a)) (size (hk_at m a)) (thickness m a)) (half (size (sym h.delr i)) (size (delc_at m a)) (size (sym h.hk i)) (sym h.thickness_of i)) in
    Same-trans (Same-of same) (darcy_of (size (delr_at m a)) (size (delc_at m a)) (size (hk_at m a)) (thickness m a) (size_positive _ h.positive.0)
    (size_positive _ h.positive.1) (size_positive _ h.positive.2) h.positive.3)

pub meets_darcy_along_columns : (m : FlowModel) (a b : ℕ) → AreAlikeInAColumn m a b →
    Same (column_conductance m a b) (over (times (times (times (size (hk_at m a)) (size (hani_at m a))) (thickness m a)) (size (delr_at m a)))
    (size (delc_at m a)))
unfolding column_conductance
meets_darcy_along_columns m a b h =
    let d = size (delc_at m a) in
    let w = size (delr_at m a) in
    let k = times (size (hk_at m a)) (size (hani_at m a)) in
    let t = thickness m a in
    let same : column_conductance m a b ≡ in_a_row (half d w k t) (half d w k t) =
    λ i. in_a_row (half d w k t) (half (size (sym h.delc i)) w (times (size (sym h.hk i)) (size (sym h.hani i))) (sym h.thickness_of i)) in
    let hk = size_positive _ h.positive.0 in
    let hani = size_positive _ h.positive.1 in
    let product : 0 < k.num = let r = mul-pos hk hani in omega (arith, (value_times (own_value (size (hk_at m a))) (own_value (size (hani_at m a)))).num, r) in
    Same-trans (Same-of same) (darcy_of d w k t (size_positive _ h.widths.0) (size_positive _ h.widths.1) product h.positive.2)

-- k t w / d where k and t are 1 and w is d
units : (k z t u w y d x : ℕ) → k * 1 ≡ 1 * z → t * 1 ≡ 1 * u → d * y ≡ w * x → (((k * t) * w) * x) * 1 ≡ 1 * (((z * u) * y) * d)
units k z t u w y d x e f g = grind (arith)

pub unit_branch : (m : FlowModel) (a b : ℕ) → AreAlike m a b → Same (size (delr_at m a)) (size (delc_at m a)) → Same (size (hk_at m a)) one →
    Same (thickness m a) one → Same (row_conductance m a b) one
unit_branch m a b h square k t =
    let d = size (delr_at m a) in
    let w = size (delc_at m a) in
    let value = value_over (size_positive _ h.positive.0) (value_times (value_times (own_value (size (hk_at m a))) (own_value (thickness m a))) (own_value w)) (own_value d) in
    Same-trans (meets_darcy m a b h)
    (same_by value value_one (units _ _ _ _ _ _ _ _ (cross_by (own_value (size (hk_at m a))) value_one k) (cross_by (own_value (thickness m a)) value_one t) square.cross))

above_zero : (a x b y : ℕ) → 0 < a → 0 < y → a * y ≤ b * x → 0 < b
above_zero a x zero y h k le = let p = mul-pos h k in absurd (omega (arith, p, le))
above_zero a x (suc b) y h k le = omega arith

-- between the halves
lesser_half : (a x b y : ℕ) → a * y ≤ b * x → (1 * y) * (1 * (1 * (a * y + b * x))) ≤ (2 * (1 * (x * y))) * (1 * b)
lesser_half a x b y le = grind (arith, mul-le-mul_left)

greater_half : (a x b y : ℕ) → a * y ≤ b * x → (2 * (1 * (x * y))) * (1 * a) ≤ (1 * x) * (1 * (1 * (a * y + b * x)))
greater_half a x b y le = grind (arith, mul-le-mul_left)

pub between_halves : (r q : Ratio) → 0 < r.num → AtMost r q → IsBetweenHalves r q
unfolding in_a_row
between_halves r q some le =
    let second : 0 < q.num = above_zero r.num (den r) q.num (den q) some (omega arith) le.cross in
    let sum : 0 < r.num * den q + q.num * den r = let p : 0 < r.num * den q = mul-pos some (omega arith) in omega (arith, p) in
    let whole = value_times value_two (value_over sum value_one (value_plus (own_value r) (own_value q))) in
    record {
      least = at_most_by (value_over second value_one (own_value q)) whole (lesser_half r.num (den r) q.num (den q) le.cross);
      most = at_most_by whole (value_over some value_one (own_value r)) (greater_half r.num (den r) q.num (den q) le.cross);
    }
