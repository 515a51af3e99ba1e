-- Of the way between two heads, how much lies above a foot.
use Rattle.plan_step.proofs.Common.{◌≡◌, ◌≤◌, ◌<◌, ◌*◌, ◌∙◌, ℕ, ap, arith, refl, sym, ℤ, pos, neg_ℤ, ◌+ℤ◌, ◌-ℤ◌, ◌*ℤ◌, ◌≤ℤ◌, ◌<ℤ◌, int_max, int_min, by_lt_z, clamps, ints, positive_natural, mul_neg}
use Rattle.plan_step.proofs.Common.{not_negative}

-- Of k parts of the way between x and y, r lie above the foot f. Where the two heads are the same, one of one part, or none.
pub record IsStretch (x y : ℤ) (k : ℕ) (f : ℤ) (r : ℕ) : Type 0 where
  pub some : 0 < k
  pub at_most : r ≤ k
  pub same : pos k *ℤ (int_max x f -ℤ int_max y f) ≡ pos r *ℤ (x -ℤ y)
  pub above : f ≤ℤ int_min x y → r ≡ k
  pub below : int_min x y <ℤ f → int_max x y ≤ℤ f → r ≡ 0
  pub across : int_min x y <ℤ f → f <ℤ int_max x y → (int_max x y ≡ int_min x y +ℤ pos k) × (int_max x y ≡ f +ℤ pos r)

turn : (k r : ℕ) → pos k *ℤ pos r ≡ pos r *ℤ pos k
turn k r = ap pos (omega arith)

turn_negative : (k r : ℕ) → pos k *ℤ neg_ℤ (pos r) ≡ pos r *ℤ neg_ℤ (pos k)
turn_negative k r = mul_neg (pos k) (pos r) ∙ ap neg_ℤ (turn k r) ∙ sym (mul_neg (pos r) (pos k))

falling : (x y : ℤ) (k : ℕ) → 0 < k → x -ℤ y ≡ pos k → (f : ℤ) → (r : ℕ) × IsStretch x y k f r
falling x y k some e f =
    let (r, g) = not_negative (int_max x f -ℤ int_max y f) (omega (arith, ints, clamps, e)) in (
      r,
      record {
        some = some;
        at_most = omega (arith, ints, clamps, e, g);
        same = ap (λ (z : ℤ). pos k *ℤ z) g ∙ turn k r ∙ ap (λ (z : ℤ). pos r *ℤ z) (sym e);
        above = λ h. omega (arith, ints, clamps, e, g, h);
        below = λ h i. omega (arith, ints, clamps, e, g, h, i);
        across = λ h i. (omega (arith, ints, clamps, e, g, h, i), omega (arith, ints, clamps, e, g, h, i));
      },
    )

rising : (x y : ℤ) (k : ℕ) → 0 < k → y -ℤ x ≡ pos k → (f : ℤ) → (r : ℕ) × IsStretch x y k f r
rising x y k some e f =
    let (r, g) = not_negative (int_max y f -ℤ int_max x f) (omega (arith, ints, clamps, e)) in
    let back : int_max x f -ℤ int_max y f ≡ neg_ℤ (pos r) = omega (arith, ints, g) in
    let down : x -ℤ y ≡ neg_ℤ (pos k) = omega (arith, ints, e) in (
      r,
      record {
        some = some;
        at_most = omega (arith, ints, clamps, e, g);
        same = ap (λ (z : ℤ). pos k *ℤ z) back ∙ turn_negative k r ∙ ap (λ (z : ℤ). pos r *ℤ z) (sym down);
        above = λ h. omega (arith, ints, clamps, e, g, h);
        below = λ h i. omega (arith, ints, clamps, e, g, h, i);
        across = λ h i. (omega (arith, ints, clamps, e, g, h, i), omega (arith, ints, clamps, e, g, h, i));
      },
    )

level : (x y : ℤ) → x ≡ y → (f : ℤ) → (r : ℕ) × IsStretch x y 1 f r
level x y e f =
    by_lt_z x f
    (λ lt. (
      0,
      record {
        some = omega arith;
        at_most = omega arith;
        same = ap (λ (z : ℤ). pos 1 *ℤ z) same_place ∙ ap (λ (z : ℤ). pos 0 *ℤ z) (sym same_head);
        above = λ h. absurd (omega (arith, ints, clamps, e, lt, h));
        below = λ h i. refl;
        across = λ h i. absurd (omega (arith, ints, clamps, e, lt, h, i));
      },
    ))
    (λ le. (
      1,
      record {
        some = omega arith;
        at_most = omega arith;
        same = ap (λ (z : ℤ). pos 1 *ℤ z) same_place ∙ ap (λ (z : ℤ). pos 1 *ℤ z) (sym same_head);
        above = λ h. refl;
        below = λ h i. absurd (omega (arith, ints, clamps, e, le, h, i));
        across = λ h i. absurd (omega (arith, ints, clamps, e, le, h, i));
      },
    ))
  where
    same_place : int_max x f -ℤ int_max y f ≡ pos 0
    same_place = omega (arith, ints, clamps, e)

    same_head : x -ℤ y ≡ pos 0
    same_head = omega (arith, ints, e)

-- how many parts, the same for every foot
pub stretch : (x y : ℤ) → (k : ℕ) × ((f : ℤ) → (r : ℕ) × IsStretch x y k f r)
stretch x y =
    by_lt_z y x
    (λ lt. let (k, some, e) = positive_natural (x -ℤ y) (omega (arith, ints)) in (k, falling x y k some e))
    (λ le. by_lt_z x y
    (λ lt. let (k, some, e) = positive_natural (y -ℤ x) (omega (arith, ints)) in (k, rising x y k some e))
    (λ ge. (1, level x y (omega (arith, ints)))))
