-- A step with all heads higher, with one ramp more, or with a conductance and a flow more at one cell.
use Rattle.exact_solutions.proofs.Common.{mul_mono, ◌*ℤ◌, ◌+ℤ◌, ◌+◌, ◌-ℤ◌, ◌<◌, ◌∷◌, ◌≡◌, ◌≤ℤ◌, Bool, List, ap, arith, cond, false, nat_eq, pos, refl, suc, true, ℕ, ℤ, sym, zero, eq-eqb, ne_eqb, ints}
use Rattle.exact_solutions.proofs.Common.{total, as_diff, diffs, same_diff, sum-same, sum_inside_at_most, Ramp, ramp_flow, link_flow, net_flow, deep, IsHeldFromBelow, flows_fall, *ℤ-zero, sum_below}

module _ (n : ℕ) (a : ℕ → ℕ → ℤ) where
  -- all heads higher by k
  pub net_flow_lifted : (b : ℕ → ℕ) (q : ℕ → ℤ) (rs : List Ramp) (d : ℕ) (X : ℕ → ℤ) (k : ℤ) (i : ℕ) → pos 0 ≤ℤ k → net_flow n a b q rs d (λ j. X j +ℤ k) i ≤ℤ net_flow n a b q rs d X i
  net_flow_lifted b q rs d X k i h =
      sum _ _ _ _ _ _
      (sum-same n (λ j. a i j *ℤ (X j +ℤ k -ℤ (X i +ℤ k))) (λ j. a i j *ℤ (X j -ℤ X i)) (λ j g. ap (λ (z : ℤ). a i j *ℤ z) (level (X j) (X i))))
      (omega (arith, ints, mul_mono (b i) (X i) (X i +ℤ k) (up (X i))))
      (flows_fall d (X i) (X i +ℤ k) i rs (up (X i)))
    where
      level : (x y : ℤ) → x +ℤ k -ℤ (y +ℤ k) ≡ x -ℤ y
      level x y = omega (arith, ints)

      up : (x : ℤ) → x ≤ℤ (x +ℤ k)
      up x = omega (arith, ints)

      sum : (l l' o o' r r' : ℤ) → l' ≡ l → o' ≤ℤ o → r' ≤ℤ r → (l' +ℤ o' +ℤ r') ≤ℤ (l +ℤ o +ℤ r)
      sum l l' o o' r r' e h k = omega (arith, ints)

  -- one ramp more
  pub net_flow-cons : (b : ℕ → ℕ) (q : ℕ → ℤ) (r : Ramp) (rs : List Ramp) (d : ℕ) (X : ℕ → ℤ) (i : ℕ) → net_flow n a b q (r ∷ rs) d X i ≡ net_flow n a b q rs d X i +ℤ ramp_flow d (X i) i r
  net_flow-cons b q r rs d X i = omega (arith, ints)

  -- a step with no less deep flow at the cells without a known head is held too
  pub held_where_deeper : (b b' : ℕ → ℕ) (q q' : ℕ → ℤ) (rs rs' : List Ramp) → IsHeldFromBelow n a b q rs → ((i : ℕ) → i < n → b' i ≡ 0 → b i ≡ 0) →
      ((i : ℕ) → i < n → b' i ≡ 0 → deep n a b q rs i ≤ℤ deep n a b' q' rs' i) → IsHeldFromBelow n a b' q' rs'
  held_where_deeper b b' q q' rs rs' held loose more S closed none c h inside =
      let (T, carried) = held S closed (λ i k e. loose i k (none i k e)) c h inside in (
        T,
        record {
          closed = carried.closed;
          within = carried.within;
          carries = omega (arith, ints, carried.carries, sum_inside_at_most n T (deep n a b q rs) (deep n a b' q' rs') (λ k j e. more k j (none k j (carried.within k j e))));
        },
      )

-- b with v more at cell c
pub conductance_added : ℕ → ℕ → (ℕ → ℕ) → ℕ → ℕ
conductance_added c v b i = b i + cond (nat_eq c i) v 0

pub flow_added : ℕ → ℤ → (ℕ → ℤ) → ℕ → ℤ
flow_added c v q i = q i +ℤ cond (nat_eq c i) v (pos 0)

-- cells that have no conductance after it
pub added_zero : (c v : ℕ) (b : ℕ → ℕ) (i : ℕ) → conductance_added c v b i ≡ 0 → b i ≡ 0
unfolding conductance_added
added_zero c v b i e = omega arith

pub added_zero_away : (c v : ℕ) (b : ℕ → ℕ) (i : ℕ) → conductance_added c (suc v) b i ≡ 0 → c ≡ i → ⊥
unfolding conductance_added
added_zero_away c v b i e same = absurd (omega (arith, rw (eq-eqb c i same) at e))

pub flow_added-away : (c : ℕ) (w : ℤ) (q : ℕ → ℤ) (i : ℕ) → (c ≡ i → ⊥) → flow_added c w q i ≡ q i
unfolding flow_added
flow_added-away c w q i apart = rw (ne_eqb c i apart) (omega (arith, ints))

pub flow_added-at : (c : ℕ) (w : ℤ) (q : ℕ → ℤ) (i : ℕ) → flow_added c w q i ≡ q i +ℤ cond (nat_eq c i) w (pos 0)
unfolding flow_added
flow_added-at c w q i = refl

pub conductance_added-at : (c v : ℕ) (b : ℕ → ℕ) (i : ℕ) → pos (conductance_added c v b i) ≡ pos (b i) +ℤ cond (nat_eq c i) (pos v) (pos 0)
unfolding conductance_added
conductance_added-at c v b i = cases (nat_eq c i)
  where
    cases : (s : Bool) → pos (b i + cond s v 0) ≡ pos (b i) +ℤ cond s (pos v) (pos 0)
    cases true = refl
    cases false = refl

-- the step with a conductance v and a flow w more at cell c
pub net_flow-added : (n : ℕ) (a : ℕ → ℕ → ℤ) (b : ℕ → ℕ) (q : ℕ → ℤ) (rs : List Ramp) (c v : ℕ) (w : ℤ) (d : ℕ) (X : ℕ → ℤ) (i : ℕ) →
    net_flow n a (conductance_added c v b) (flow_added c w q) rs d X i ≡ net_flow n a b q rs d X i +ℤ cond (nat_eq c i) (pos d *ℤ w -ℤ pos v *ℤ X i) (pos 0)
unfolding conductance_added flow_added
net_flow-added n a b q rs c v w d X i = cases (nat_eq c i) (link_flow n a X i) (pos d) (q i) (b i) (X i) (total (ramp_flow d (X i) i) rs)
  where
    ring : (l d q b x r w v : ℤ) → l +ℤ (d *ℤ (q +ℤ w) -ℤ (b +ℤ v) *ℤ x) +ℤ r ≡ l +ℤ (d *ℤ q -ℤ b *ℤ x) +ℤ r +ℤ (d *ℤ w -ℤ v *ℤ x)
    ring l d q b x r w v = rw (as_diff l, as_diff d, as_diff q, as_diff b, as_diff x, as_diff r, as_diff w, as_diff v) (simp diffs (same_diff _ _ _ _ (omega arith)))

    none : (l d q b x r : ℤ) → l +ℤ (d *ℤ (q +ℤ pos 0) -ℤ (b +ℤ pos 0) *ℤ x) +ℤ r ≡ l +ℤ (d *ℤ q -ℤ b *ℤ x) +ℤ r +ℤ pos 0
    none l d q b x r = rw (zero q, zero b, zero (l +ℤ (d *ℤ q -ℤ b *ℤ x) +ℤ r)) refl
      where
        zero : (z : ℤ) → z +ℤ pos 0 ≡ z
        zero z = omega (arith, ints)

    cases : (s : Bool) (l d q : ℤ) (b : ℕ) (x r : ℤ) → l +ℤ (d *ℤ (q +ℤ cond s w (pos 0)) -ℤ pos (b + cond s v 0) *ℤ x) +ℤ r ≡ l +ℤ (d *ℤ q -ℤ pos b *ℤ x) +ℤ r +ℤ cond s (d *ℤ w -ℤ pos v *ℤ x) (pos 0)
    cases true l d q b x r = ring l d q (pos b) x r w (pos v)
    cases false l d q b x r = none l d q (pos b) x r

-- Heads of n + 1 cells that are the heads of n cells, scaled, and one more; and sums over rows of a matrix at such heads.
-- X scaled below n, and N at n
pub with_last : ℕ → ℤ → ℤ → (ℕ → ℤ) → ℕ → ℤ
with_last n S N X i = cond (nat_eq i n) N (S *ℤ X i)

pub with_last-at : (n : ℕ) (S N : ℤ) (X : ℕ → ℤ) → with_last n S N X n ≡ N
unfolding with_last
with_last-at n S N X = rw (eq-eqb n n refl) refl

pub with_last-below : (n : ℕ) (S N : ℤ) (X : ℕ → ℤ) (i : ℕ) → i < n → with_last n S N X i ≡ S *ℤ X i
unfolding with_last
with_last-below n S N X i h = rw (ne_eqb i n (λ e. omega arith)) refl

pub sum_below-scaled : (n : ℕ) (f X : ℕ → ℤ) (S : ℤ) → sum_below n (λ j. f j *ℤ (S *ℤ X j)) ≡ S *ℤ sum_below n (λ j. f j *ℤ X j)
sum_below-scaled zero f X S = sym (*ℤ-zero S)
sum_below-scaled (suc n) f X S = rw (sum_below-scaled n f X S) (ring S (sum_below n (λ j. f j *ℤ X j)) (f n) (X n))
  where
    ring : (s t a x : ℤ) → s *ℤ t +ℤ a *ℤ (s *ℤ x) ≡ s *ℤ (t +ℤ a *ℤ x)
    ring s t a x = rw (as_diff s, as_diff t, as_diff a, as_diff x) (simp diffs (same_diff _ _ _ _ (omega arith)))

pub sum_below-with_last : (n : ℕ) (f X : ℕ → ℤ) (S N : ℤ) → sum_below (suc n) (λ j. f j *ℤ with_last n S N X j) ≡ S *ℤ sum_below n (λ j. f j *ℤ X j) +ℤ f n *ℤ N
sum_below-with_last n f X S N =
    rw (sum-same n (λ j. f j *ℤ with_last n S N X j) (λ j. f j *ℤ (S *ℤ X j)) (λ j i. ap (λ (z : ℤ). f j *ℤ z) (with_last-below n S N X j i)), with_last-at n S N X, sum_below-scaled n f X S) refl

pub sum_below-combined : (n : ℕ) (f g X : ℕ → ℤ) (S t : ℤ) → sum_below n (λ j. (S *ℤ f j +ℤ t *ℤ g j) *ℤ X j) ≡ S *ℤ sum_below n (λ j. f j *ℤ X j) +ℤ t *ℤ sum_below n (λ j. g j *ℤ X j)
sum_below-combined zero f g X S t = grind (arith)
sum_below-combined (suc n) f g X S t = rw (sum_below-combined n f g X S t) (ring S t (sum_below n (λ j. f j *ℤ X j)) (sum_below n (λ j. g j *ℤ X j)) (f n) (g n) (X n))
  where
    ring : (s t a b f g x : ℤ) → s *ℤ a +ℤ t *ℤ b +ℤ (s *ℤ f +ℤ t *ℤ g) *ℤ x ≡ s *ℤ (a +ℤ f *ℤ x) +ℤ t *ℤ (b +ℤ g *ℤ x)
    ring s t a b f g x = rw (as_diff s, as_diff t, as_diff a, as_diff b, as_diff f, as_diff g, as_diff x) (simp diffs (same_diff _ _ _ _ (omega arith)))
