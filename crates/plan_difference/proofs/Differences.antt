-- The base plan's heads compared with the other plan's, moved by a difference: what the base plan's balance is there at most and at least.
use Rattle.plan_difference.proofs.Common.{[], ◌*ℤ◌, ◌+ℤ◌, ◌-ℤ◌, ◌∷◌, ◌∙◌, ◌≡◌, ◌≤ℤ◌, Bool, List, None, Option, Some, arith, cond, false, inl, inr, nat_eq, neg_ℤ, negsuc, pos, suc, true, zero, ℕ, ℤ}
use Rattle.plan_difference.proofs.Common.{clamps, ints, as_diff, diffs, mul_add, mul_mono, same_diff, Ramp, rise, ramp_flow, net_flow, rise_grows, most_of_ramp, least_of_ramp, greatest_balance}
use Rattle.plan_difference.proofs.Common.{least_balance, DifferencesLieBelow, DifferencesLieAbove, least, most, total}
use Rattle.cell_balance.proofs.{Ramps.link_flow, Sums.sum-same, Sums.sum-add, Comparison.heads_compare}
use Rattle.step_problem.proofs.Falls.{loss_falls}

-- a head that is higher by k stands higher on a ramp by k at most
rise_lipschitz : (t : ℤ) (top : Option ℤ) (d : ℕ) (x y : ℤ) (k : ℕ) → y ≤ℤ (x +ℤ pos k) → rise t top d y ≤ℤ (rise t top d x +ℤ pos k)
rise_lipschitz t None d x y k h = omega (arith, ints, clamps)
rise_lipschitz t (Some u) d x y k h = omega (arith, ints, clamps)

-- the loss grows by the conductance times k at most
loss_lipschitz : (c : ℕ) (t : ℤ) (top : Option ℤ) (d : ℕ) (x y : ℤ) (k : ℕ) → y ≤ℤ (x +ℤ pos k) → (pos c *ℤ rise t top d y) ≤ℤ (pos c *ℤ rise t top d x +ℤ pos c *ℤ pos k)
loss_lipschitz c t top d x y k h = omega (arith, ints, mul_mono c _ _ (rise_lipschitz t top d x y k h), mul_add (pos c) (rise t top d x) (pos k))

gives_at_most : (c : ℕ) (t : ℤ) (top : Option ℤ) (d : ℕ) (y u : ℤ) → neg_ℤ (pos c *ℤ rise t top d (y +ℤ u)) ≤ℤ (neg_ℤ (pos c *ℤ rise t top d y) +ℤ most 0 c (neg_ℤ u))
gives_at_most c t top d y (pos zero) = omega (arith, ints, loss_lipschitz c t top d (y +ℤ pos 0) y 0 (omega (arith, ints)))
gives_at_most c t top d y (pos (suc k)) = omega (arith, ints, loss_falls c _ _ (rise_grows t top d y (y +ℤ pos (suc k)) (omega (arith, ints))))
gives_at_most c t top d y (negsuc k) = omega (arith, ints, loss_lipschitz c t top d (y +ℤ negsuc k) y (suc k) (omega (arith, ints)))

gives_at_least : (c : ℕ) (t : ℤ) (top : Option ℤ) (d : ℕ) (y u : ℤ) → (neg_ℤ (pos c *ℤ rise t top d y) +ℤ least 0 c (neg_ℤ u)) ≤ℤ neg_ℤ (pos c *ℤ rise t top d (y +ℤ u))
gives_at_least c t top d y (pos zero) = omega (arith, ints, loss_lipschitz c t top d y (y +ℤ pos 0) 0 (omega (arith, ints)))
gives_at_least c t top d y (pos (suc k)) = omega (arith, ints, loss_lipschitz c t top d y (y +ℤ pos (suc k)) (suc k) (omega (arith, ints)))
gives_at_least c t top d y (negsuc k) = omega (arith, ints, loss_falls c _ _ (rise_grows t top d (y +ℤ negsuc k) y (omega (arith, ints))))

ramp_below : (d : ℕ) (y u : ℤ) (i : ℕ) (r : Ramp) → ramp_flow d (y +ℤ u) i r ≤ℤ (ramp_flow d y i r +ℤ most_of_ramp u i r)
ramp_below d y u i r = pick (nat_eq r.cell i) _ _ _ (gives_at_most r.c r.foot r.top d y u)
  where
    pick : (s : Bool) (x y z : ℤ) → x ≤ℤ (y +ℤ z) → cond s x (pos 0) ≤ℤ (cond s y (pos 0) +ℤ cond s z (pos 0))
    pick true x y z h = h
    pick false x y z h = omega (arith, ints)

ramp_above : (d : ℕ) (y u : ℤ) (i : ℕ) (r : Ramp) → (ramp_flow d y i r +ℤ least_of_ramp u i r) ≤ℤ ramp_flow d (y +ℤ u) i r
ramp_above d y u i r = pick (nat_eq r.cell i) _ _ _ (gives_at_least r.c r.foot r.top d y u)
  where
    pick : (s : Bool) (x y z : ℤ) → (y +ℤ z) ≤ℤ x → (cond s y (pos 0) +ℤ cond s z (pos 0)) ≤ℤ cond s x (pos 0)
    pick true x y z h = h
    pick false x y z h = omega (arith, ints)

ramps_below : (d : ℕ) (y u : ℤ) (i : ℕ) (rs : List Ramp) → total (ramp_flow d (y +ℤ u) i) rs ≤ℤ (total (ramp_flow d y i) rs +ℤ total (most_of_ramp u i) rs)
ramps_below d y u i [] = omega (arith, ints)
ramps_below d y u i (r ∷ rs) = omega (arith, ints, ramp_below d y u i r, ramps_below d y u i rs)

ramps_above : (d : ℕ) (y u : ℤ) (i : ℕ) (rs : List Ramp) → (total (ramp_flow d y i) rs +ℤ total (least_of_ramp u i) rs) ≤ℤ total (ramp_flow d (y +ℤ u) i) rs
ramps_above d y u i [] = omega (arith, ints)
ramps_above d y u i (r ∷ rs) = omega (arith, ints, ramp_above d y u i r, ramps_above d y u i rs)

-- flows over links add up
links_add : (n : ℕ) (a : ℕ → ℕ → ℤ) (Y U : ℕ → ℤ) (i : ℕ) → link_flow n a (λ k. Y k +ℤ U k) i ≡ link_flow n a Y i +ℤ link_flow n a U i
links_add n a Y U i = sum-same n _ _ (λ j h. ring (a i j) (Y j) (U j) (Y i) (U i)) ∙ sum-add n (λ j. a i j *ℤ (Y j -ℤ Y i)) (λ j. a i j *ℤ (U j -ℤ U i))
  where
    ring : (a y u z w : ℤ) → a *ℤ ((y +ℤ u) -ℤ (z +ℤ w)) ≡ a *ℤ (y -ℤ z) +ℤ a *ℤ (u -ℤ w)
    ring a y u z w = rw (as_diff a, as_diff y, as_diff u, as_diff z, as_diff w) (simp diffs (same_diff _ _ _ _ (omega arith)))

module _ (n : ℕ) (a : ℕ → ℕ → ℤ) (b : ℕ → ℕ) (ramps : List Ramp) (q e : ℕ → ℤ) (d : ℕ) (Y U : ℕ → ℤ) (i : ℕ) where
  -- the base plan's balance at the heads of the other one, moved by U, is at most that one's balance and the greatest of the difference
  moved_below : net_flow n a b (λ k. q k +ℤ e k) ramps d (λ k. Y k +ℤ U k) i ≤ℤ (net_flow n a b q ramps d Y i +ℤ greatest_balance n a b ramps e d U i)
  moved_below =
      omega (
        arith,
        ints,
        links_add n a Y U i,
        mul_add (pos d) (q i) (e i),
        mul_add (pos (b i)) (Y i) (U i),
        ramps_below d (Y i) (U i) i ramps,
      )

  moved_above : (net_flow n a b q ramps d Y i +ℤ least_balance n a b ramps e d U i) ≤ℤ net_flow n a b (λ k. q k +ℤ e k) ramps d (λ k. Y k +ℤ U k) i
  moved_above =
      omega (
        arith,
        ints,
        links_add n a Y U i,
        mul_add (pos d) (q i) (e i),
        mul_add (pos (b i)) (Y i) (U i),
        ramps_above d (Y i) (U i) i ramps,
      )

pub differences_below : DifferencesLieBelow
differences_below n a b ramps q e d X Y U plans given i h =
    omega (
      arith,
      ints,
      heads_compare n a b (λ k. q k +ℤ e k) ramps plans.both_ways plans.held d (λ k. Y k +ℤ U k) X plans.some
          (λ k j up. elim (given k j) [
            | inl lies ↦ absurd (omega (arith, ints))
            | inr sinks ↦ omega (arith, ints, moved_below n a b ramps q e d Y U k, plans.other k j)
          ])
          (λ k j up. omega (arith, ints, plans.base k j)) i h,
    )

pub differences_above : DifferencesLieAbove
differences_above n a b ramps q e d X Y L plans given i h =
    omega (
      arith,
      ints,
      heads_compare n a b (λ k. q k +ℤ e k) ramps plans.both_ways plans.held d X (λ k. Y k +ℤ L k) plans.some
          (λ k j up. omega (arith, ints, plans.base k j))
          (λ k j up. elim (given k j) [
            | inl lies ↦ absurd (omega (arith, ints))
            | inr rises ↦ omega (arith, ints, moved_above n a b ramps q e d Y L k, plans.other k j)
          ]) i h,
    )
