-- One ramp more: solve with it as a conductance to its foot; where that head lies on the ramp it is the solution, else solve without the ramp, or with its full rate.
use Rattle.exact_solutions.proofs.Common.{◌*ℤ◌, ◌+ℤ◌, ◌-ℤ◌, ◌<◌, ◌∙◌, ◌∷◌, ◌≡◌, ◌≤ℤ◌, List, Option, Some, ap, arith, cond, nat_eq, neg_ℤ, pos, refl, subst, sym, ℕ, ℤ, [], ◌<ℤ◌, None, inl, inr, suc}
use Rattle.exact_solutions.proofs.Common.{zero, *ℤ-zero, zero-*ℤ, ints, by_lt_z, cancel_right, mul_mono_right, last_factors_swap, loss_falls, as_diff, diffs, mul_mono, same_diff, sub_mul, Ramp, rise}
use Rattle.exact_solutions.proofs.Common.{ramp_flow, AreMutual, net_flow, IsHeldFromBelow, IsSolution, HasWholeSolution, IsSinking, HasSinking, rise_within_extent, rise-below_foot, rise-above_top}
use Rattle.exact_solutions.proofs.Common.{extent-between, IsHeldFromAbove, rise-no_extent, rise-no_top, rise-between, cases_lt}
use Rattle.exact_solutions.proofs.LinearSteps.{same_at_most, same_at_least, comparison_over, linear_solution, not_loose}
use Rattle.exact_solutions.proofs.Added.{net_flow-cons, conductance_added, flow_added, net_flow-added}
use Rattle.exact_solutions.proofs.Regimes.{cond_same, cond_less, cond_nonneg, cond_none, ramp, flow-middle, flow-full, held_without, held_full, held_middle, sinking_middle, sinking_exists}

-- (y * e ≤ x * d), and x at most t * e
below_over : (e d : ℕ) (x y t : ℤ) → 0 < e → (y *ℤ pos e) ≤ℤ (x *ℤ pos d) → x ≤ℤ (t *ℤ pos e) → y ≤ℤ (t *ℤ pos d)
below_over e d x y t some h k = cancel_right e y (t *ℤ pos d) some (omega (arith, ints, last_factors_swap t (pos e) (pos d), mul_mono_right d x (t *ℤ pos e) k))

above_over : (e d : ℕ) (x y u : ℤ) → 0 < e → (x *ℤ pos d) ≤ℤ (y *ℤ pos e) → (u *ℤ pos e) ≤ℤ x → (u *ℤ pos d) ≤ℤ y
above_over e d x y u some h k = cancel_right e (u *ℤ pos d) y some (omega (arith, ints, last_factors_swap u (pos e) (pos d), mul_mono_right d (u *ℤ pos e) x k))

-- the other ramps, with whatever known heads and flows, have a solution where they are held and some heads let no cell gain water
abbrev pub OthersSolved : ℕ → (ℕ → ℕ → ℤ) → List Ramp → Type 0
OthersSolved n a rs = (b : ℕ → ℕ) (q : ℕ → ℤ) → IsHeldFromBelow n a b q rs → HasSinking n a b q rs → HasWholeSolution n a b q rs

module _ (n : ℕ) (a : ℕ → ℕ → ℤ) (both : AreMutual n a) (rs : List Ramp) (others : OthersSolved n a rs) where
  -- a ramp that never carries anything
  pub solution-idle : (b : ℕ → ℕ) (q : ℕ → ℤ) (r : Ramp) → IsHeldFromBelow n a b q (r ∷ rs) → HasSinking n a b q (r ∷ rs) →
      ((d : ℕ) (x : ℤ) (i : ℕ) → i < n → ramp_flow d x i r ≡ pos 0) → HasWholeSolution n a b q (r ∷ rs)
  solution-idle b q r held (e, Z, sinks) idle =
      let (d, X, is) = others b q (held_without n a b q rs r held) (
        e,
        Z,
        record { some = sinks.some; loses = λ i h. omega (arith, ints, net_flow-cons n a b q r rs e Z i, idle e (Z i) i h, sinks.loses i h) },
      ) in
      (d, X, record { some = is.some; solves = λ i h. net_flow-cons n a b q r rs d X i ∙ omega (arith, ints, is.solves i h, idle d (X i) i h) })

  module _ (k c : ℕ) (t : ℤ) (b : ℕ → ℕ) (q : ℕ → ℤ) where
    -- the step with the ramp as a conductance to its foot
    abbrev MiddleSolution : ℕ → (ℕ → ℤ) → Type 0
    MiddleSolution d X = IsSolution n a (conductance_added k c b) (flow_added k (pos c *ℤ t) q) rs d X

    middle_flow : (e : ℕ) (X : ℕ → ℤ) (i : ℕ) → net_flow n a (conductance_added k c b) (flow_added k (pos c *ℤ t) q) rs e X i ≡
        net_flow n a b q rs e X i +ℤ cond (nat_eq k i) (pos e *ℤ (pos c *ℤ t) -ℤ pos c *ℤ X i) (pos 0)
    middle_flow e X i = net_flow-added n a b q rs k c (pos c *ℤ t) e X i

    -- its head lies below the foot: then it lets no cell gain water without the ramp, and the solution without the ramp lies lower still
    pub solution-below_foot : (top : Option ℤ) → k < n → IsHeldFromBelow n a b q (ramp k c t top ∷ rs) → (e : ℕ) (X : ℕ → ℤ) → MiddleSolution e X →
        X k ≤ℤ (t *ℤ pos e) → HasWholeSolution n a b q (ramp k c t top ∷ rs)
    solution-below_foot top inside held e X middle under =
        let sinks : IsSinking n a b q rs e X = record { some = middle.some; loses = λ i h. omega (arith, ints, middle_flow e X i, middle.solves i h, gives i) } in
        let held' = held_without n a b q rs (ramp k c t top) held in
        let (d, Y, is) = others b q held' (e, X, sinks) in
        let less = comparison_over n a b q rs both held' e d X Y middle.some is.some sinks.loses (λ i h. same_at_least _ _ (is.solves i h)) k inside in
        let low = below_over e d (X k) (Y k) t middle.some less under in
        (d, Y, record { some = is.some; solves = λ i h. net_flow-cons n a b q (ramp k c t top) rs d Y i ∙ omega (arith, ints, is.solves i h, dry d Y low i) })
      where
        gives : (i : ℕ) → pos 0 ≤ℤ cond (nat_eq k i) (pos e *ℤ (pos c *ℤ t) -ℤ pos c *ℤ X i) (pos 0)
        gives i = cond_nonneg k i _ (λ same. omega (arith, ints, ring (pos e) (pos c) t, mul_mono c (X i) (t *ℤ pos e) (subst (λ (z : ℕ). X z ≤ℤ (t *ℤ pos e)) same under)))
          where
            ring : (e c t : ℤ) → c *ℤ (t *ℤ e) ≡ e *ℤ (c *ℤ t)
            ring e c t = rw (as_diff e, as_diff c, as_diff t) (simp diffs (same_diff _ _ _ _ (omega arith)))

        dry : (d : ℕ) (Y : ℕ → ℤ) → Y k ≤ℤ (t *ℤ pos d) → (i : ℕ) → ramp_flow d (Y i) i (ramp k c t top) ≡ pos 0
        dry d Y low i = cond_same k i _ (pos 0) (λ same. gone (rise-below_foot t top d (Y i) (subst (λ (z : ℕ). Y z ≤ℤ (t *ℤ pos d)) same low))) ∙ cond_none k i
          where
            gone : {z : ℤ} → z ≡ pos 0 → neg_ℤ (pos c *ℤ z) ≡ pos 0
            gone {z} e = rw (e, *ℤ-zero (pos c)) refl

    -- its head lies on the ramp
    pub solution-between : (top : Option ℤ) (e : ℕ) (X : ℕ → ℤ) → MiddleSolution e X → rise t top e (X k) ≡ X k -ℤ t *ℤ pos e → HasWholeSolution n a b q (ramp k c t top ∷ rs)
    solution-between top e X middle on = (
      e,
      X,
      record {
        some = middle.some;
        solves = λ i h. net_flow-cons n a b q (ramp k c t top) rs e X i
            ∙ ap (λ (z : ℤ). net_flow n a b q rs e X i +ℤ z)
            (cond_same k i _ _ (λ same. ap (λ (z : ℤ). neg_ℤ (pos c *ℤ z)) (subst (λ (z : ℕ). rise t top e (X z) ≡ X z -ℤ t *ℤ pos e) same on) ∙ flow-middle
            (pos e) (pos c) t (X i)))
            ∙ sym (middle_flow e X i)
            ∙ middle.solves i h;
      },
    )

    -- its head lies above the top: then no cell loses water at it with the full rate, and the solution with the full rate lies higher still
    pub solution-above_top : (u : ℤ) → t ≤ℤ u → k < n → IsHeldFromBelow n a b q (ramp k c t (Some u) ∷ rs) → HasSinking n a b q (ramp k c t (Some u) ∷ rs) →
        (d : ℕ) (X : ℕ → ℤ) → MiddleSolution d X → (u *ℤ pos d) ≤ℤ X k → HasWholeSolution n a b q (ramp k c t (Some u) ∷ rs)
    solution-above_top u up inside held (e, Z, sinks) d X middle over =
        let held' = held_full n a b q rs k c t u up held in
        let (f, Y, is) = others (conductance_added k 0 b) full_q held' (
          e,
          Z,
          record {
            some = sinks.some;
            loses = λ i h. omega (
              arith,
              ints,
              full_flow e Z i,
              net_flow-cons n a b q (ramp k c t (Some u)) rs e Z i,
              takes i,
              sinks.loses i h,
            );
          },
        ) in
        let more = comparison_over n a (conductance_added k 0 b) full_q rs both held' f d Y X is.some middle.some (λ i h. same_at_most _ _ (is.solves i h))
        (λ i h. omega (arith, ints, full_flow d X i, middle_flow d X i, gives i, middle.solves i h)) k inside in
        let high = above_over d f (X k) (Y k) u middle.some more over in (
          f,
          Y,
          record {
            some = is.some;
            solves = λ i h. net_flow-cons n a b q (ramp k c t (Some u)) rs f Y i
                ∙ ap (λ (z : ℤ). net_flow n a b q rs f Y i +ℤ z)
                (cond_same k i _ _ (λ same. ap (λ (z : ℤ). neg_ℤ (pos c *ℤ z))
                (rise-above_top t u f (Y i) up (subst (λ (z : ℕ). (u *ℤ pos f) ≤ℤ Y z) same high)) ∙ flow-full (pos f) (pos c) (u -ℤ t) (Y i)))
                ∙ sym (full_flow f Y i)
                ∙ is.solves i h;
          },
        )
      where
        full_q : ℕ → ℤ
        full_q = flow_added k (neg_ℤ (pos c *ℤ (u -ℤ t))) q

        full_flow : (e : ℕ) (X : ℕ → ℤ) (i : ℕ) → net_flow n a (conductance_added k 0 b) (flow_added k (neg_ℤ (pos c *ℤ (u -ℤ t))) q) rs e X i ≡
            net_flow n a b q rs e X i +ℤ cond (nat_eq k i) (pos e *ℤ neg_ℤ (pos c *ℤ (u -ℤ t)) -ℤ pos 0 *ℤ X i) (pos 0)
        full_flow e X i = net_flow-added n a b q rs k 0 (neg_ℤ (pos c *ℤ (u -ℤ t))) e X i

        takes : (i : ℕ) → cond (nat_eq k i) (pos e *ℤ neg_ℤ (pos c *ℤ (u -ℤ t)) -ℤ pos 0 *ℤ Z i) (pos 0) ≤ℤ ramp_flow e (Z i) i (ramp k c t (Some u))
        takes i = cond_less k i _ _ (λ same. rw (← flow-full (pos e) (pos c) (u -ℤ t) (Z i)) (loss_falls c _ _ (rw (extent-between t u up) at (rise_within_extent t u e (Z i)))))

        gives : (i : ℕ) → cond (nat_eq k i) (pos d *ℤ (pos c *ℤ t) -ℤ pos c *ℤ X i) (pos 0) ≤ℤ cond (nat_eq k i) (pos d *ℤ neg_ℤ (pos c *ℤ (u -ℤ t)) -ℤ pos 0 *ℤ X i) (pos 0)
        gives i = cond_less k i _ _ (λ same. rw (← flow-full (pos d) (pos c) (u -ℤ t) (X i), ← flow-middle (pos d) (pos c) t (X i))
            (loss_falls c _ _ (rw sub_mul (omega (arith, ints, subst (λ (z : ℕ). (u *ℤ pos d) ≤ℤ X z) same over)))))

-- A step with ramps that is held from below and above has a solution: by induction on its ramps.
module _ (n : ℕ) (a : ℕ → ℕ → ℤ) (both : AreMutual n a) (rs : List Ramp) (others : OthersSolved n a rs) where
  -- a ramp that conducts, in a cell of the step
  conducting_ramp : (k c : ℕ) (t : ℤ) (top : Option ℤ) (b : ℕ → ℕ) (q : ℕ → ℤ) → k < n → IsHeldFromBelow n a b q (ramp k (suc c) t top ∷ rs) →
      HasSinking n a b q (ramp k (suc c) t top ∷ rs) → HasWholeSolution n a b q (ramp k (suc c) t top ∷ rs)
  conducting_ramp k c t None b q inside held sinks =
      let (d, X, middle) = others (conductance_added k (suc c) b) (flow_added k (pos (suc c) *ℤ t) q) (held_middle n a b q rs k c t None held) (sinking_middle n a b q rs k (suc c) t None sinks) in
      by_lt_z (X k) (t *ℤ pos d)
      (λ lt. solution-below_foot n a both rs others k (suc c) t b q None inside held d X middle (omega (arith, ints)))
      (λ le. solution-between n a both rs others k (suc c) t b q None d X middle (rise-no_top t d (X k) le))
  conducting_ramp k c t (Some u) b q inside held sinks =
      by_lt_z u t
      (λ lt. solution-idle n a both rs others b q (ramp k (suc c) t (Some u)) held sinks (λ d x i h. cond_same k i _ (pos 0) (λ same. gone (rise-no_extent t u d x (weaken _ _ lt))) ∙ cond_none k i))
      (λ up.
      let (d, X, middle) = others (conductance_added k (suc c) b) (flow_added k (pos (suc c) *ℤ t) q) (held_middle n a b q rs k c t (Some u) held)
      (sinking_middle n a b q rs k (suc c) t (Some u) sinks) in
      by_lt_z (X k) (t *ℤ pos d)
      (λ lt. solution-below_foot n a both rs others k (suc c) t b q (Some u) inside held d X middle (weaken _ _ lt))
      (λ le.
      by_lt_z (u *ℤ pos d) (X k)
      (λ over. solution-above_top n a both rs others k (suc c) t b q u up inside held sinks d X middle (weaken _ _ over))
      (λ under. solution-between n a both rs others k (suc c) t b q (Some u) d X middle (rise-between t u d (X k) le under))))
    where
      weaken : (x y : ℤ) → x <ℤ y → x ≤ℤ y
      weaken x y h = omega (arith, ints)

      gone : {z : ℤ} → z ≡ pos 0 → neg_ℤ (pos (suc c) *ℤ z) ≡ pos 0
      gone {z} e = rw (e, *ℤ-zero (pos (suc c))) refl

  one_more : (k c : ℕ) (t : ℤ) (top : Option ℤ) (b : ℕ → ℕ) (q : ℕ → ℤ) → IsHeldFromBelow n a b q (ramp k c t top ∷ rs) →
      HasSinking n a b q (ramp k c t top ∷ rs) → HasWholeSolution n a b q (ramp k c t top ∷ rs)
  one_more k zero t top b q held sinks = solution-idle n a both rs others b q (ramp k 0 t top) held sinks (λ d x i h. cond_same k i _ (pos 0) (λ same. gone (rise t top d x)) ∙ cond_none k i)
    where
      gone : (z : ℤ) → neg_ℤ (pos 0 *ℤ z) ≡ pos 0
      gone z = rw (zero-*ℤ z) refl
  one_more k (suc c) t top b q held sinks =
      elim (cases_lt k n) [
        | inl inside ↦ conducting_ramp k c t top b q inside held sinks
        | inr out ↦ solution-idle n a both rs others b q (ramp k (suc c) t top) held sinks (λ d x i h. cond_same k i _ (pos 0) (λ same. absurd (omega (arith, out, same, h))) ∙ cond_none k i)
      ]

module _ (n : ℕ) (a : ℕ → ℕ → ℤ) (both : AreMutual n a) where
  solution_from_sinking : (rs : List Ramp) (b : ℕ → ℕ) (q : ℕ → ℤ) → IsHeldFromBelow n a b q rs → HasSinking n a b q rs → HasWholeSolution n a b q rs
  solution_from_sinking [] b q held (e, Z, sinks) = linear_solution n a b both (not_loose n a b q both held e Z sinks.some sinks.loses) q
  solution_from_sinking (r ∷ rs) b q held sinks = one_more n a both rs (λ b' q' h s. solution_from_sinking rs b' q' h s) r.cell r.c r.foot r.top b q held sinks

  pub whole_solution_exists : (b : ℕ → ℕ) (q : ℕ → ℤ) (rs : List Ramp) → IsHeldFromBelow n a b q rs → IsHeldFromAbove n a b q rs → HasWholeSolution n a b q rs
  whole_solution_exists b q rs held above = solution_from_sinking rs b q held (sinking_exists n a both rs b q above)
