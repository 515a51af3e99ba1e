-- The share of the way between two heads that lies on a ramp.
use Rattle.plan_difference.proofs.Common.{◌≡◌, ℕ, ◌*◌, ◌<◌, ◌≤◌, ◌∙◌, ap, sym, refl, arith, ℤ, pos, negsuc, neg_ℤ, ◌*ℤ◌, ◌-ℤ◌, ◌≤ℤ◌, mul-le-mul_left, by_lt_z, clamps, ints, as_diff, diffs, mul_assoc}
use Rattle.plan_difference.proofs.Common.{mul_neg, same_diff, positive_natural, Option, Some, None, RampsShare, rise}

-- p and q stand apart in the order of x and y, and no further
pub record IsOnTheWay (x y p q : ℤ) : Type 0 where
  pub up : y ≤ℤ x → (pos 0 ≤ℤ (p -ℤ q)) × ((p -ℤ q) ≤ℤ (x -ℤ y))
  pub down : x ≤ℤ y → (pos 0 ≤ℤ (q -ℤ p)) × ((q -ℤ p) ≤ℤ (y -ℤ x))

-- so their difference is a share r / k of the way between x and y
pub record IsPart (x y p q : ℤ) : Type 0 where
  pub k : ℕ
  pub r : ℕ
  pub some : 0 < k
  pub at_most : r ≤ k
  pub same : pos k *ℤ (p -ℤ q) ≡ pos r *ℤ (x -ℤ y)

pub not_negative : (z : ℤ) → pos 0 ≤ℤ z → (s : ℕ) × (z ≡ pos s)
not_negative (pos s) h = (s, refl)
not_negative (negsuc s) h = absurd (omega (arith, ints))

pub part_of_way : (x y p q : ℤ) → IsOnTheWay x y p q → IsPart x y p q
part_of_way x y p q way =
    by_lt_z y x
    (λ higher.
    let (k, some, e) = positive_natural (x -ℤ y) (omega (arith, ints)) in
    let both = way.up (omega (arith, ints)) in
    let (r, f) = not_negative (p -ℤ q) both.0 in
    record { k = k; r = r; some = some; at_most = omega (arith, ints, both.1); same = ap (λ (z : ℤ). pos k *ℤ z) f ∙ turn k r ∙ ap (λ (z : ℤ). pos r *ℤ z) (sym e) })
    (λ le. by_lt_z x y
    (λ lower.
    let (k, some, e) = positive_natural (y -ℤ x) (omega (arith, ints)) in
    let both = way.down (omega (arith, ints)) in
    let (r, f) = not_negative (q -ℤ p) both.0 in
    let f' : p -ℤ q ≡ neg_ℤ (pos r) = omega (arith, ints) in
    let e' : x -ℤ y ≡ neg_ℤ (pos k) = omega (arith, ints) in
    record { k = k; r = r; some = some; at_most = omega (arith, ints, both.1); same = ap (λ (z : ℤ). pos k *ℤ z) f' ∙ turn_negative k r ∙ ap (λ (z : ℤ). pos r *ℤ z) (sym e') })
    (λ ge.
    let same_head : x -ℤ y ≡ pos 0 = omega (arith, ints) in
    let same_place : p -ℤ q ≡ pos 0 = omega (arith, ints, (way.up ge).1, (way.up ge).0) in
    record { k = 1; r = 0; some = omega arith; at_most = omega arith; same = ap (λ (z : ℤ). pos 1 *ℤ z) same_place ∙ ap (λ (z : ℤ). pos 0 *ℤ z) (sym same_head) }))
  where
    turn : (k r : ℕ) → pos k *ℤ pos r ≡ pos r *ℤ pos k
    turn k r = ap pos (omega arith)

    turn_negative : (k r : ℕ) → pos k *ℤ neg_ℤ (pos r) ≡ pos r *ℤ neg_ℤ (pos k)
    turn_negative k r = mul_neg (pos k) (pos r) ∙ ap neg_ℤ (turn k r) ∙ sym (mul_neg (pos r) (pos k))

rise_on_the_way : (t : ℤ) (top : Option ℤ) (d : ℕ) (x y : ℤ) → IsOnTheWay x y (rise t top d x) (rise t top d y)
rise_on_the_way t None d x y = record {
  up = λ h. (omega (arith, ints, clamps), omega (arith, ints, clamps));
  down = λ h. (omega (arith, ints, clamps), omega (arith, ints, clamps));
}
rise_on_the_way t (Some u) d x y = record {
  up = λ h. (omega (arith, ints, clamps), omega (arith, ints, clamps));
  down = λ h. (omega (arith, ints, clamps), omega (arith, ints, clamps));
}

pub ramps_share : RampsShare
ramps_share c t top d x y =
    let part = part_of_way x y (rise t top d x) (rise t top d y) (rise_on_the_way t top d x y) in
    record {
      num = c * part.r;
      den = part.k;
      some = part.some;
      at_most = mul-le-mul_left c part.at_most;
      same = shared (pos c) (pos part.k) (pos part.r) (rise t top d x) (rise t top d y) (x -ℤ y) part.same;
    }
  where
    ring : (c k p q : ℤ) → k *ℤ (c *ℤ p -ℤ c *ℤ q) ≡ c *ℤ (k *ℤ (p -ℤ q))
    ring c k p q = rw (as_diff c, as_diff k, as_diff p, as_diff q) (simp diffs (same_diff _ _ _ _ (omega arith)))

    shared : (c k r p q z : ℤ) → k *ℤ (p -ℤ q) ≡ r *ℤ z → k *ℤ (c *ℤ p -ℤ c *ℤ q) ≡ (c *ℤ r) *ℤ z
    shared c k r p q z e = ring c k p q ∙ ap (λ (a : ℤ). c *ℤ a) e ∙ sym (mul_assoc c r z)
