-- A ramp in one regime: as a conductance to its foot, or at its full rate; and a step that is held stays held where its first ramp is left out or put in one regime.
use Rattle.exact_solutions.proofs.Common.{◌≡◌, ◌≤ℤ◌, arith, cond, inl, inr, nat_eq, pos, refl, ℕ, ℤ, cases_eq, eq-eqb, ne_eqb, ints, ◌*ℤ◌, ◌+ℤ◌, ◌-ℤ◌, ◌∙◌, ◌∷◌, Bool, List, None, Option, Some, false}
use Rattle.exact_solutions.proofs.Common.{neg_ℤ, suc, true, zero-*ℤ, total, as_diff, diffs, same_diff, [], ap, subst, int_max, clamps, loss_falls, Ramp, full_rate, IsHeldFromBelow, IsHeldFromAbove}
use Rattle.exact_solutions.proofs.Common.{extent-between, ramp_flow, AreMutual, HasSinking, rise_within_height, rise-no_top, full_rate_nonneg, flow_leaves}
use Rattle.exact_solutions.proofs.{Added.held_where_deeper, Added.conductance_added, Added.flow_added, Added.added_zero, Added.added_zero_away, Added.flow_added-away, Added.flow_added-at}
use Rattle.exact_solutions.proofs.{Added.conductance_added-at, Added.net_flow_lifted, Added.net_flow-cons, Added.net_flow-added, LinearSteps.same_at_most, LinearSteps.linear_solution}

-- at one cell alone
pub cond_same : (k i : ℕ) (x y : ℤ) → (k ≡ i → x ≡ y) → cond (nat_eq k i) x (pos 0) ≡ cond (nat_eq k i) y (pos 0)
cond_same k i x y h = elim (cases_eq k i) [ inl e ↦ rw (eq-eqb k i e) (h e) | inr e ↦ rw (ne_eqb k i e) refl ]

pub cond_less : (k i : ℕ) (x y : ℤ) → (k ≡ i → x ≤ℤ y) → cond (nat_eq k i) x (pos 0) ≤ℤ cond (nat_eq k i) y (pos 0)
cond_less k i x y h = elim (cases_eq k i) [ inl e ↦ rw (eq-eqb k i e) (h e) | inr e ↦ rw (ne_eqb k i e) (omega (arith, ints)) ]

pub cond_nonneg : (k i : ℕ) (x : ℤ) → (k ≡ i → pos 0 ≤ℤ x) → pos 0 ≤ℤ cond (nat_eq k i) x (pos 0)
cond_nonneg k i x h = elim (cases_eq k i) [ inl e ↦ rw (eq-eqb k i e) (h e) | inr e ↦ rw (ne_eqb k i e) (omega (arith, ints)) ]

pub cond_none : (k i : ℕ) → cond (nat_eq k i) (pos 0) (pos 0) ≡ pos 0
cond_none k i = elim (cases_eq k i) [ inl e ↦ rw (eq-eqb k i e) refl | inr e ↦ rw (ne_eqb k i e) refl ]

abbrev pub ramp : ℕ → ℕ → ℤ → Option ℤ → Ramp
ramp k c t top = record { cell = k; c = c; foot = t; top = top }

-- between foot and top the flow is that of a conductance c to a head of t
pub flow-middle : (e c t x : ℤ) → neg_ℤ (c *ℤ (x -ℤ t *ℤ e)) ≡ e *ℤ (c *ℤ t) -ℤ c *ℤ x
flow-middle e c t x = rw (as_diff e, as_diff c, as_diff t, as_diff x) (simp diffs (same_diff _ _ _ _ (omega arith)))

-- above the top it is a constant flow
pub flow-full : (e c w x : ℤ) → neg_ℤ (c *ℤ (w *ℤ e)) ≡ e *ℤ neg_ℤ (c *ℤ w) -ℤ pos 0 *ℤ x
flow-full e c w x = rw (zero-*ℤ x) (ring e c w ∙ (omega (arith, ints)))
  where
    ring : (e c w : ℤ) → neg_ℤ (c *ℤ (w *ℤ e)) ≡ e *ℤ neg_ℤ (c *ℤ w)
    ring e c w = rw (as_diff e, as_diff c, as_diff w) (simp diffs (same_diff _ _ _ _ (omega arith)))

module _ (n : ℕ) (a : ℕ → ℕ → ℤ) (b : ℕ → ℕ) (q : ℕ → ℤ) (rs : List Ramp) where
  pub held_without : (r : Ramp) → IsHeldFromBelow n a b q (r ∷ rs) → IsHeldFromBelow n a b q rs
  held_without r held = held_where_deeper n a b b q q (r ∷ rs) rs held (λ i h e. e) (λ i h e. omega (arith, ints, full_rate_nonneg i r))

  pub held_middle : (k c : ℕ) (t : ℤ) (top : Option ℤ) → IsHeldFromBelow n a b q (ramp k (suc c) t top ∷ rs) →
      IsHeldFromBelow n a (conductance_added k (suc c) b) (flow_added k (pos (suc c) *ℤ t) q) rs
  held_middle k c t top held =
      held_where_deeper n a b (conductance_added k (suc c) b) q (flow_added k (pos (suc c) *ℤ t) q) (ramp k (suc c) t top ∷ rs) rs held
      (λ i h e. added_zero k (suc c) b i e) (λ i h e. more i (added_zero_away k c b i e))
    where
      more : (i : ℕ) → (k ≡ i → ⊥) → (q i -ℤ (full_rate i (ramp k (suc c) t top) +ℤ total (full_rate i) rs)) ≤ℤ (flow_added k (pos (suc c) *ℤ t) q i -ℤ total (full_rate i) rs)
      more i apart = rw (flow_added-away k (pos (suc c) *ℤ t) q i apart, ne_eqb k i apart) (omega (arith, ints))

  pub held_full : (k c : ℕ) (t u : ℤ) → t ≤ℤ u → IsHeldFromBelow n a b q (ramp k c t (Some u) ∷ rs) → IsHeldFromBelow n a (conductance_added k 0 b) (flow_added k (neg_ℤ (pos c *ℤ (u -ℤ t))) q) rs
  held_full k c t u up held =
      held_where_deeper n a b (conductance_added k 0 b) q (flow_added k (neg_ℤ (pos c *ℤ (u -ℤ t))) q) (ramp k c t (Some u) ∷ rs) rs held
      (λ i h e. added_zero k 0 b i e)
      (λ i h e. rw (flow_added-at k (neg_ℤ (pos c *ℤ (u -ℤ t))) q i, extent-between t u up) (cases (nat_eq k i) (q i) (total (full_rate i) rs) (pos c *ℤ (u -ℤ t))))
    where
      cases : (s : Bool) (q f w : ℤ) → (q -ℤ (cond s w (pos 0) +ℤ f)) ≤ℤ (q +ℤ cond s (neg_ℤ w) (pos 0) -ℤ f)
      cases true q f w = omega (arith, ints)
      cases false q f w = omega (arith, ints)

  -- without a ramp that has a top a step stays held from above, and with one that has none put to its foot
  pub held_above_without : (k c : ℕ) (t u : ℤ) → IsHeldFromAbove n a b q (ramp k c t (Some u) ∷ rs) → IsHeldFromAbove n a b q rs
  held_above_without k c t u held S closed none m h inside = held S closed (λ i j e. omega (arith, ints, cond_none k i, none i j e)) m h inside

  pub held_above_middle : (k c : ℕ) (t : ℤ) → IsHeldFromAbove n a b q (ramp k c t None ∷ rs) → IsHeldFromAbove n a (conductance_added k c b) (flow_added k (pos c *ℤ t) q) rs
  held_above_middle k c t held S closed none m h inside =
      held S closed (λ i j e. omega (arith, ints, conductance_added-at k c b i, none i j e)) m h inside

-- Heads at which no cell gains water: raised to a ramp's foot they serve with the ramp as a conductance, and back; so a step that is held from above has some.
-- how much higher all heads have to be for that of cell k to stand at the foot t
lift : ℕ → ℤ → ℕ → (ℕ → ℤ) → ℤ
lift k t e Z = int_max (t *ℤ pos e -ℤ Z k) (pos 0)

lift_nonneg : (k : ℕ) (t : ℤ) (e : ℕ) (Z : ℕ → ℤ) → pos 0 ≤ℤ lift k t e Z
unfolding lift
lift_nonneg k t e Z = omega (arith, ints, clamps)

lifted-at_foot : (k : ℕ) (t : ℤ) (e : ℕ) (Z : ℕ → ℤ) (i : ℕ) → k ≡ i → (t *ℤ pos e) ≤ℤ (Z i +ℤ lift k t e Z)
unfolding lift
lifted-at_foot k t e Z i same = subst (λ (z : ℕ). (t *ℤ pos e) ≤ℤ (Z z +ℤ int_max (t *ℤ pos e -ℤ Z k) (pos 0))) same (step (t *ℤ pos e) (Z k))
  where
    step : (t z : ℤ) → t ≤ℤ (z +ℤ int_max (t -ℤ z) (pos 0))
    step t z = omega (arith, ints, clamps)

module _ (n : ℕ) (a : ℕ → ℕ → ℤ) (b : ℕ → ℕ) (q : ℕ → ℤ) (rs : List Ramp) where
  -- the ramp takes at least what a conductance to its foot would, where the head stands at or above the foot
  pub sinking_middle : (k c : ℕ) (t : ℤ) (top : Option ℤ) → HasSinking n a b q (ramp k c t top ∷ rs) → HasSinking n a (conductance_added k c b) (flow_added k (pos c *ℤ t) q) rs
  sinking_middle k c t top (e, Z, sinks) = (
    e,
    (λ j. Z j +ℤ lift k t e Z),
    record {
      some = sinks.some;
      loses = λ i h. loss _ _ _ _ _ _ (net_flow-added n a b q rs k c (pos c *ℤ t) e (λ j. Z j +ℤ lift k t e Z) i)
          (net_flow-cons n a b q (ramp k c t top) rs e (λ j. Z j +ℤ lift k t e Z) i) (takes i)
          (net_flow_lifted n a b q (ramp k c t top ∷ rs) e Z (lift k t e Z) i (lift_nonneg k t e Z)) (sinks.loses i h);
    },
  )
    where
      loss : (mid part flow whole ramps old : ℤ) → mid ≡ part +ℤ flow → whole ≡ part +ℤ ramps → flow ≤ℤ ramps → whole ≤ℤ old → old ≤ℤ pos 0 → mid ≤ℤ pos 0
      loss mid part flow whole ramps old e f h k s = omega (arith, ints)

      takes : (i : ℕ) → cond (nat_eq k i) (pos e *ℤ (pos c *ℤ t) -ℤ pos c *ℤ (Z i +ℤ lift k t e Z)) (pos 0) ≤ℤ ramp_flow e (Z i +ℤ lift k t e Z) i (ramp k c t top)
      takes i = cond_less k i _ _ (λ same.
          rw (← flow-middle (pos e) (pos c) t (Z i +ℤ lift k t e Z))
          (loss_falls c _ _ (rise_within_height t top e (Z i +ℤ lift k t e Z) (lifted-at_foot k t e Z i same))))

  -- and just as much, where it has no top
  sinking_no_top : (k c : ℕ) (t : ℤ) → HasSinking n a (conductance_added k c b) (flow_added k (pos c *ℤ t) q) rs → HasSinking n a b q (ramp k c t None ∷ rs)
  sinking_no_top k c t (e, Z, sinks) = (
    e,
    (λ j. Z j +ℤ lift k t e Z),
    record {
      some = sinks.some;
      loses = λ i h. loss _ _ _ _ _ _ (net_flow-added n a b q rs k c (pos c *ℤ t) e (λ j. Z j +ℤ lift k t e Z) i)
          (net_flow-cons n a b q (ramp k c t None) rs e (λ j. Z j +ℤ lift k t e Z) i) (same_flow i)
          (net_flow_lifted n a (conductance_added k c b) (flow_added k (pos c *ℤ t) q) rs e Z (lift k t e Z) i (lift_nonneg k t e Z)) (sinks.loses i h);
    },
  )
    where
      loss : (mid part flow whole ramps old : ℤ) → mid ≡ part +ℤ flow → whole ≡ part +ℤ ramps → ramps ≡ flow → mid ≤ℤ old → old ≤ℤ pos 0 → whole ≤ℤ pos 0
      loss mid part flow whole ramps old e f h k s = omega (arith, ints)

      same_flow : (i : ℕ) → ramp_flow e (Z i +ℤ lift k t e Z) i (ramp k c t None) ≡ cond (nat_eq k i) (pos e *ℤ (pos c *ℤ t) -ℤ pos c *ℤ (Z i +ℤ lift k t e Z)) (pos 0)
      same_flow i = cond_same k i _ _ (λ same.
          ap (λ (z : ℤ). neg_ℤ (pos c *ℤ z)) (rise-no_top t e (Z i +ℤ lift k t e Z) (lifted-at_foot k t e Z i same)) ∙ flow-middle (pos e) (pos c) t
          (Z i +ℤ lift k t e Z))

  -- a ramp only takes
  sinking_with : (r : Ramp) → HasSinking n a b q rs → HasSinking n a b q (r ∷ rs)
  sinking_with r (e, Z, sinks) = (e, Z, record { some = sinks.some; loses = λ i h. omega (arith, ints, net_flow-cons n a b q r rs e Z i, flow_leaves e (Z i) i r, sinks.loses i h) })

module _ (n : ℕ) (a : ℕ → ℕ → ℤ) (both : AreMutual n a) where
  one_more : (k c : ℕ) (t : ℤ) (top : Option ℤ) (b : ℕ → ℕ) (q : ℕ → ℤ) (rs : List Ramp) →
      ((b : ℕ → ℕ) (q : ℕ → ℤ) → IsHeldFromAbove n a b q rs → HasSinking n a b q rs) → IsHeldFromAbove n a b q (ramp k c t top ∷ rs) →
      HasSinking n a b q (ramp k c t top ∷ rs)
  one_more k c t None b q rs others held = sinking_no_top n a b q rs k c t (others (conductance_added k c b) (flow_added k (pos c *ℤ t) q) (held_above_middle n a b q rs k c t held))
  one_more k c t (Some u) b q rs others held = sinking_with n a b q rs (ramp k c t (Some u)) (others b q (held_above_without n a b q rs k c t u held))

  -- a step that is held from above has heads at which no cell gains water
  pub sinking_exists : (rs : List Ramp) (b : ℕ → ℕ) (q : ℕ → ℤ) → IsHeldFromAbove n a b q rs → HasSinking n a b q rs
  sinking_exists [] b q held =
      let (d, X, is) = linear_solution n a b both (λ S closed none c h inside. held S closed (λ i j e. zero _ (none i j e)) c h inside) q in
      (d, X, record { some = is.some; loses = λ i h. same_at_most _ _ (is.solves i h) })
    where
      zero : (b : ℕ) → b ≡ 0 → pos b +ℤ pos 0 ≡ pos 0
      zero b e = rw e refl
  sinking_exists (r ∷ rs) b q held = one_more r.cell r.c r.foot r.top b q rs (λ b' q' h. sinking_exists rs b' q' h) held
