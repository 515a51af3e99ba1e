-- A step without ramps, of whose closed sets each has a conductance to a known head, has a solution; and where some heads let no cell gain water, no held set is without one.
pub use Rattle.decimal_input.proofs.FloorLaws.{le-of as same_at_most}
use Rattle.exact_solutions.proofs.Common.{[], ◌*ℤ◌, ◌+ℤ◌, ◌-ℤ◌, ◌<◌, ◌≡◌, ◌≤ℤ◌, Bool, arith, pos, refl, suc, true, zero, ℕ, ℤ, *ℤ-zero, zero-*ℤ, ints, as_diff, diffs, same_diff, sum_below, sum_nonneg}
use Rattle.exact_solutions.proofs.Common.{add_mul, cancel_right, le_anti, ◌*◌, ◌∙◌, ◌∷◌, List, None, Option, Some, cond, false, nat_eq, neg_ℤ, subst, sym, mul-pos, int_min, total, mul_assoc}
use Rattle.exact_solutions.proofs.Common.{max_times, min_times, sum-same, sum-times, sub_mul, mul_mono_right, IsClosed, AreMutual, net_flow, IsHeldFromBelow, IsSolution, Ramp, rise, ramp_flow}
use Rattle.exact_solutions.proofs.Common.{link_flow, carried_gain, heads_compare}
use Rattle.exact_solutions.proofs.Elimination.{IsInversePositive, inverse_positive_solved}

-- no closed set of cells is without a conductance to a known head
abbrev pub IsNowhereLoose : ℕ → (ℕ → ℕ → ℤ) → (ℕ → ℕ) → Type 0
IsNowhereLoose n a b = (S : ℕ → Bool) → IsClosed n a S → ((i : ℕ) → i < n → S i ≡ true → b i ≡ 0) → (c : ℕ) → c < n → S c ≡ true → ⊥

-- the total conductance of a cell
abbrev total_conductance : ℕ → (ℕ → ℕ → ℤ) → (ℕ → ℕ) → ℕ → ℤ
total_conductance n a b i = sum_below n (a i) +ℤ pos (b i)

sum_below-differences : (n : ℕ) (f X : ℕ → ℤ) (v : ℤ) → sum_below n (λ j. f j *ℤ (X j -ℤ v)) ≡ sum_below n (λ j. f j *ℤ X j) -ℤ sum_below n f *ℤ v
sum_below-differences zero f X v = rw (zero-*ℤ v) refl
sum_below-differences (suc n) f X v = rw (sum_below-differences n f X v) (ring (sum_below n (λ j. f j *ℤ X j)) (sum_below n f) (f n) (X n) v)
  where
    ring : (s t f x v : ℤ) → s -ℤ t *ℤ v +ℤ f *ℤ (x -ℤ v) ≡ s +ℤ f *ℤ x -ℤ (t +ℤ f) *ℤ v
    ring s t f x v = rw (as_diff s, as_diff t, as_diff f, as_diff x, as_diff v) (simp diffs (same_diff _ _ _ _ (omega arith)))

module _ (n : ℕ) (a : ℕ → ℕ → ℤ) (b : ℕ → ℕ) (both : AreMutual n a) (known : IsNowhereLoose n a b) where
  inverse_positive : IsInversePositive n a (total_conductance n a b)
  inverse_positive X draws i h =
      heads_compare n a b (λ k. pos 0) [] both (λ S closed none c g inside. absurd (known S closed none c g inside)) 1 X (λ k. pos 0) (omega arith)
      (λ k g more. omega (arith, ints, sum_below-differences n (a k) X (X k), add_mul (sum_below n (a k)) (pos (b k)) (X k), draws k g))
      (λ k g more. (omega (arith, ints, sum_nonneg n (λ j. a k j *ℤ (pos 0 -ℤ pos 0)) (λ j j_in. nothing (a k j)), *ℤ-zero (pos (b k)))))
      i h
    where
      nothing : (z : ℤ) → pos 0 ≤ℤ (z *ℤ (pos 0 -ℤ pos 0))
      nothing z = rw (*ℤ-zero z) (omega (arith, ints))

  pub linear_solution : (q : ℕ → ℤ) → (d : ℕ) × (X : ℕ → ℤ) × IsSolution n a b q [] d X
  linear_solution q =
      let (d, X, is) = inverse_positive_solved n a (total_conductance n a b) q both.nonneg inverse_positive in (
        d,
        X,
        record {
          some = is.some;
          solves = λ i h. omega (arith, ints, sum_below-differences n (a i) X (X i), add_mul (sum_below n (a i)) (pos (b i)) (X i), is.solves i h);
        },
      )

-- where there are heads at which no cell gains water, a step that is held from below has a known head at each closed set
pub not_loose : (n : ℕ) (a : ℕ → ℕ → ℤ) (b : ℕ → ℕ) (q : ℕ → ℤ) → AreMutual n a → IsHeldFromBelow n a b q [] → (d : ℕ) (Z : ℕ → ℤ) → 0 < d →
    ((i : ℕ) → i < n → net_flow n a b q [] d Z i ≤ℤ pos 0) → IsNowhereLoose n a b
not_loose n a b q both held d Z some loses S closed none c h inside =
    let (T, carried) = held S closed none c h inside in
    carried_gain n a T Z (λ i. q i -ℤ pos 0) d both carried.closed some carried.carries (λ i k e.
    let still : pos (b i) *ℤ Z i ≡ pos 0 = rw (none i k (carried.within i k e)) (zero-*ℤ (Z i)) in omega (arith, ints, same (pos d) (q i), loses i k))
  where
    same : (d q : ℤ) → d *ℤ (q -ℤ pos 0) ≡ d *ℤ q
    same d q = rw (zero q) refl
      where
        zero : (z : ℤ) → z -ℤ pos 0 ≡ z
        zero z = omega (arith, ints)

-- A step over another denominator: net flows scale, and so heads over two denominators compare, and two solutions are the same heads.
pub same_at_least : (x y : ℤ) → x ≡ y → y ≤ℤ x
same_at_least x y e = omega (arith, ints)

-- a factor above 0 cancels
pub cancel_same : (m : ℕ) (a b : ℤ) → 0 < m → a *ℤ pos m ≡ b *ℤ pos m → a ≡ b
cancel_same m a b some e = le_anti a b (cancel_right m a b some (same_at_most _ _ e)) (cancel_right m b a some (same_at_least _ _ e))

-- heads, feet and tops times k
rise_scaled : (t : ℤ) (top : Option ℤ) (d k : ℕ) (x : ℤ) → rise t top (d * k) (x *ℤ pos k) ≡ rise t top d x *ℤ pos k
rise_scaled t None d k x = sym (max_times k (x -ℤ t *ℤ pos d) (pos 0) ∙ rw (sub_mul x (t *ℤ pos d) (pos k), mul_assoc t (pos d) (pos k), zero-*ℤ (pos k)) refl)
rise_scaled t (Some u) d k x = sym (max_times k (int_min x (u *ℤ pos d) -ℤ t *ℤ pos d) (pos 0) ∙ rw (
  sub_mul (int_min x (u *ℤ pos d)) (t *ℤ pos d) (pos k),
  min_times k x (u *ℤ pos d),
  mul_assoc t (pos d) (pos k),
  mul_assoc u (pos d) (pos k),
  zero-*ℤ (pos k),
) refl)

flow_scaled : (d k : ℕ) (x : ℤ) (i : ℕ) (r : Ramp) → ramp_flow (d * k) (x *ℤ pos k) i r ≡ ramp_flow d x i r *ℤ pos k
flow_scaled d k x i r = cases (nat_eq r.cell i)
  where
    ring : (c z k : ℤ) → neg_ℤ (c *ℤ (z *ℤ k)) ≡ neg_ℤ (c *ℤ z) *ℤ k
    ring c z k = rw (as_diff c, as_diff z, as_diff k) (simp diffs (same_diff _ _ _ _ (omega arith)))

    cases : (s : Bool) → cond s (neg_ℤ (pos r.c *ℤ rise r.foot r.top (d * k) (x *ℤ pos k))) (pos 0) ≡ cond s (neg_ℤ (pos r.c *ℤ rise r.foot r.top d x)) (pos 0) *ℤ pos k
    cases true = rw (rise_scaled r.foot r.top d k x) (ring (pos r.c) (rise r.foot r.top d x) (pos k))
    cases false = sym (zero-*ℤ (pos k))

flows_scaled : (d k : ℕ) (x : ℤ) (i : ℕ) (rs : List Ramp) → total (ramp_flow (d * k) (x *ℤ pos k) i) rs ≡ total (ramp_flow d x i) rs *ℤ pos k
flows_scaled d k x i [] = sym (zero-*ℤ (pos k))
flows_scaled d k x i (r ∷ rs) = rw (flow_scaled d k x i r, flows_scaled d k x i rs) (sym (add_mul (ramp_flow d x i r) (total (ramp_flow d x i) rs) (pos k)))

module _ (n : ℕ) (a : ℕ → ℕ → ℤ) where
  links_scaled : (k : ℕ) (X : ℕ → ℤ) (i : ℕ) → link_flow n a (λ j. X j *ℤ pos k) i ≡ link_flow n a X i *ℤ pos k
  links_scaled k X i = sym (sum-times n (λ j. a i j *ℤ (X j -ℤ X i)) (pos k) ∙ sum-same n _ _ (λ j h. ring (a i j) (X j) (X i) (pos k)))
    where
      ring : (c x y k : ℤ) → (c *ℤ (x -ℤ y)) *ℤ k ≡ c *ℤ (x *ℤ k -ℤ y *ℤ k)
      ring c x y k = rw (as_diff c, as_diff x, as_diff y, as_diff k) (simp diffs (same_diff _ _ _ _ (omega arith)))

  pub net_flow-scaled : (b : ℕ → ℕ) (q : ℕ → ℤ) (rs : List Ramp) (d k : ℕ) (X : ℕ → ℤ) (i : ℕ) → net_flow n a b q rs (d * k) (λ j. X j *ℤ pos k) i ≡ net_flow n a b q rs d X i *ℤ pos k
  net_flow-scaled b q rs d k X i =
      rw (links_scaled k X i, flows_scaled d k (X i) i rs) (ring (link_flow n a X i) (pos d) (q i) (pos (b i)) (X i) (total (ramp_flow d (X i) i) rs) (pos k))
    where
      ring : (l d q b x r k : ℤ) → l *ℤ k +ℤ ((d *ℤ k) *ℤ q -ℤ b *ℤ (x *ℤ k)) +ℤ r *ℤ k ≡ (l +ℤ (d *ℤ q -ℤ b *ℤ x) +ℤ r) *ℤ k
      ring l d q b x r k = rw (as_diff l, as_diff d, as_diff q, as_diff b, as_diff x, as_diff r, as_diff k) (simp diffs (same_diff _ _ _ _ (omega arith)))

  -- the comparison of heads over two denominators
  pub comparison_over : (b : ℕ → ℕ) (q : ℕ → ℤ) (rs : List Ramp) → AreMutual n a → IsHeldFromBelow n a b q rs → (d e : ℕ) (X Y : ℕ → ℤ) → 0 < d → 0 < e →
      ((i : ℕ) → i < n → net_flow n a b q rs d X i ≤ℤ pos 0) → ((i : ℕ) → i < n → pos 0 ≤ℤ net_flow n a b q rs e Y i) → (i : ℕ) → i < n →
      (Y i *ℤ pos d) ≤ℤ (X i *ℤ pos e)
  comparison_over b q rs both held d e X Y some_d some_e loses gains i h =
      heads_compare n a b q rs both held (d * e) (λ j. X j *ℤ pos e) (λ j. Y j *ℤ pos d) (mul-pos some_d some_e)
      (λ k j up. rw (net_flow-scaled b q rs d e X k) (less e _ (loses k j)))
      (λ k j up. subst (λ (z : ℕ). pos 0 ≤ℤ net_flow n a b q rs z (λ j. Y j *ℤ pos d) k) (turn e d) (rw (net_flow-scaled b q rs e d Y k) (more d _ (gains k j))))
      i h
    where
      turn : (x y : ℕ) → x * y ≡ y * x
      turn x y = omega arith

      less : (k : ℕ) (z : ℤ) → z ≤ℤ pos 0 → (z *ℤ pos k) ≤ℤ pos 0
      less k z h = rw zero-*ℤ at (mul_mono_right k z (pos 0) h)

      more : (k : ℕ) (z : ℤ) → pos 0 ≤ℤ z → pos 0 ≤ℤ (z *ℤ pos k)
      more k z h = rw zero-*ℤ at (mul_mono_right k (pos 0) z h)

-- two solutions are the same heads
pub one_whole_solution : (n : ℕ) (a : ℕ → ℕ → ℤ) (b : ℕ → ℕ) (q : ℕ → ℤ) (ramps : List Ramp) → AreMutual n a → IsHeldFromBelow n a b q ramps →
    (d k : ℕ) (X Y : ℕ → ℤ) → IsSolution n a b q ramps d X → IsSolution n a b q ramps k Y → (i : ℕ) → i < n → X i *ℤ pos k ≡ Y i *ℤ pos d
one_whole_solution n a b q rs both held d k X Y one two i h =
    le_anti _ _
    (comparison_over n a b q rs both held k d Y X two.some one.some (λ j g. same_at_most _ _ (two.solves j g)) (λ j g. same_at_least _ _ (one.solves j g)) i h)
    (comparison_over n a b q rs both held d k X Y one.some two.some (λ j g. same_at_most _ _ (one.solves j g)) (λ j g. same_at_least _ _ (two.solves j g)) i h)
