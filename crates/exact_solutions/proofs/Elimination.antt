-- A linear step whose matrix is inverse-positive has a solution: the last cell is eliminated without fractions.
use Rattle.exact_solutions.proofs.Common.{◌*ℤ◌, ◌*◌, ◌+ℤ◌, ◌-ℤ◌, ◌<ℤ◌, ◌<◌, ◌∙◌, ◌≡◌, ◌≤ℤ◌, ap, arith, inl, inr, neg_ℤ, negsuc, pos, subst, suc, zero, ℕ, ℤ, mul-pos, *ℤ-zero, zero-*ℤ, cases_eq}
use Rattle.exact_solutions.proofs.Common.{by_lt_z, ints, as_diff, diffs, mul_nonneg, same_diff, sum_below, cancel_le, positive_natural}
use Rattle.exact_solutions.proofs.Added.{with_last, with_last-at, with_last-below, sum_below-with_last, sum_below-combined}

-- An inverse-positive matrix: where D i * X i is at least the sum of a i j * X j in each row, no X i is below 0. (Textbook; cell i has the total conductance D i, and conducts a i j to cell j.)
abbrev pub IsInversePositive : ℕ → (ℕ → ℕ → ℤ) → (ℕ → ℤ) → Type 0
IsInversePositive n a D = (X : ℕ → ℤ) → ((i : ℕ) → i < n → sum_below n (λ j. a i j *ℤ X j) ≤ℤ (D i *ℤ X i)) → (i : ℕ) → i < n → pos 0 ≤ℤ X i

-- heads X over d at which each cell's balance is zero; cell i gets the constant flow q i
pub record IsLinearSolution (n : ℕ) (a : ℕ → ℕ → ℤ) (D q : ℕ → ℤ) (d : ℕ) (X : ℕ → ℤ) : Type 0 where
  pub some : 0 < d
  pub solves : (i : ℕ) → i < n → D i *ℤ X i ≡ sum_below n (λ j. a i j *ℤ X j) +ℤ pos d *ℤ q i

-- else heads of 0 below n, and -1 at n, would meet the premise of the property
pivot_positive : (n : ℕ) (a : ℕ → ℕ → ℤ) (D : ℕ → ℤ) → ((i j : ℕ) → pos 0 ≤ℤ a i j) → IsInversePositive (suc n) a D → pos 0 <ℤ (D n -ℤ a n n)
pivot_positive n a D nonneg mono =
    by_lt_z (pos 0) (D n -ℤ a n n)
    (λ h. h)
    (λ h. absurd (omega (arith, ints, subst (λ (z : ℤ). pos 0 ≤ℤ z) (with_last-at n (pos 0) (negsuc 0) (λ k. pos 0)) (mono (with_last n (pos 0) (negsuc 0) (λ k. pos 0)) (draws h) n (omega arith)))))
  where
    row : (i : ℕ) → sum_below (suc n) (λ j. a i j *ℤ with_last n (pos 0) (negsuc 0) (λ k. pos 0) j) ≡ a i n *ℤ negsuc 0
    row i = sum_below-with_last n (a i) (λ k. pos 0) (pos 0) (negsuc 0) ∙ none (sum_below n (λ j. a i j *ℤ pos 0)) (a i n *ℤ negsuc 0)
      where
        none : (s t : ℤ) → pos 0 *ℤ s +ℤ t ≡ t
        none s t = rw (zero-*ℤ s) (omega (arith, ints))

    minus : (x : ℤ) → x *ℤ negsuc 0 ≡ neg_ℤ x
    minus x = omega (arith, ints)

    draws : (D n -ℤ a n n) ≤ℤ pos 0 → (i : ℕ) → i < suc n → sum_below (suc n) (λ j. a i j *ℤ with_last n (pos 0) (negsuc 0) (λ k. pos 0) j) ≤ℤ (D i *ℤ with_last n (pos 0) (negsuc 0) (λ k. pos 0) i)
    draws h i k =
        rw (row i, minus (a i n)) (elim (cases_eq i n) [
          | inl e ↦ rw e (rw (with_last-at n (pos 0) (negsuc 0) (λ k. pos 0), minus (D n)) (omega (arith, ints)))
          | inr e ↦ rw (with_last-below n (pos 0) (negsuc 0) (λ k. pos 0) i (omega arith)) (rest (D i) (a i n) (nonneg i n))
        ])
      where
        rest : (d b : ℤ) → pos 0 ≤ℤ b → neg_ℤ b ≤ℤ (d *ℤ (pos 0 *ℤ pos 0))
        rest d b h = rw (*ℤ-zero d) (omega (arith, ints))

-- what is left when cell n is eliminated, where s is its conductance to others
abbrev reduced_a : ℕ → (ℕ → ℕ → ℤ) → ℕ → ℕ → ℕ → ℤ
reduced_a n a s i j = pos s *ℤ a i j +ℤ a i n *ℤ a n j

abbrev reduced_q : ℕ → (ℕ → ℕ → ℤ) → (ℕ → ℤ) → ℕ → ℕ → ℤ
reduced_q n a q s i = pos s *ℤ q i +ℤ a i n *ℤ q n

-- what the cells below n send to cell n
abbrev sent_to_last : ℕ → (ℕ → ℕ → ℤ) → (ℕ → ℤ) → ℤ
sent_to_last n a X = sum_below n (λ j. a n j *ℤ X j)

reduced_inverse_positive : (n : ℕ) (a : ℕ → ℕ → ℤ) (D : ℕ → ℤ) (s : ℕ) → 0 < s → D n -ℤ a n n ≡ pos s → IsInversePositive (suc n) a D → IsInversePositive n (reduced_a n a s) (λ i. pos s *ℤ D i)
reduced_inverse_positive n a D s some same mono X draws i h =
    cancel_le s (pos 0) (X i) some (zero (s_times _ _ (with_last-below n (pos s) (sent_to_last n a X) X i h) (mono (with_last n (pos s) (sent_to_last n a X) X) rows i (omega arith))))
  where
    s_times : (y z : ℤ) → y ≡ z → pos 0 ≤ℤ y → pos 0 ≤ℤ z
    s_times y z e k = rw e at k

    zero : {z : ℤ} → pos 0 ≤ℤ z → (pos s *ℤ pos 0) ≤ℤ z
    zero {z} h = rw (*ℤ-zero (pos s)) h

    rows : (k : ℕ) → k < suc n → sum_below (suc n) (λ j. a k j *ℤ with_last n (pos s) (sent_to_last n a X) X j) ≤ℤ (D k *ℤ with_last n (pos s) (sent_to_last n a X) X k)
    rows k kh =
        rw (sum_below-with_last n (a k) X (pos s) (sent_to_last n a X)) (elim (cases_eq k n) [
          | inl e ↦ rw e (rw (with_last-at n (pos s) (sent_to_last n a X) X) (last (sent_to_last n a X) (D n) (a n n) (pos s) same))
          | inr e ↦ rw (with_last-below n (pos s) (sent_to_last n a X) X k (omega arith))
              (within _ (pos s) (D k) (X k) (rw (sum_below-combined n (a k) (a n) X (pos s) (a k n)) at (draws k (omega arith))))
        ])
      where
        last : (t d b s : ℤ) → d -ℤ b ≡ s → (s *ℤ t +ℤ b *ℤ t) ≤ℤ (d *ℤ t)
        last t d b s e = rw (← e) (level t d b)
          where
            ring : (t d b : ℤ) → (d -ℤ b) *ℤ t +ℤ b *ℤ t ≡ d *ℤ t
            ring t d b = rw (as_diff t, as_diff d, as_diff b) (simp diffs (same_diff _ _ _ _ (omega arith)))

            level : (t d b : ℤ) → ((d -ℤ b) *ℤ t +ℤ b *ℤ t) ≤ℤ (d *ℤ t)
            level t d b = rw (ring t d b) (omega (arith, ints))

        within : (l s d x : ℤ) → l ≤ℤ ((s *ℤ d) *ℤ x) → l ≤ℤ (d *ℤ (s *ℤ x))
        within l s d x h = rw (ring s d x) at h
          where
            ring : (s d x : ℤ) → (s *ℤ d) *ℤ x ≡ d *ℤ (s *ℤ x)
            ring s d x = rw (as_diff s, as_diff d, as_diff x) (simp diffs (same_diff _ _ _ _ (omega arith)))

-- the solution of what is left gives one of the whole
solution_extended : (n : ℕ) (a : ℕ → ℕ → ℤ) (D q : ℕ → ℤ) (s : ℕ) → 0 < s → D n -ℤ a n n ≡ pos s → (d : ℕ) (X : ℕ → ℤ) →
    IsLinearSolution n (reduced_a n a s) (λ i. pos s *ℤ D i) (reduced_q n a q s) d X →
    IsLinearSolution (suc n) a D q (d * s) (with_last n (pos s) (sent_to_last n a X +ℤ pos d *ℤ q n) X)
solution_extended n a D q s some same d X left = record { some = mul-pos left.some some; solves = rows }
  where
    rows : (k : ℕ) → k < suc n → D k *ℤ with_last n (pos s) (sent_to_last n a X +ℤ pos d *ℤ q n) X k ≡
        sum_below (suc n) (λ j. a k j *ℤ with_last n (pos s) (sent_to_last n a X +ℤ pos d *ℤ q n) X j) +ℤ pos (d * s) *ℤ q k
    rows k kh =
        rw (sum_below-with_last n (a k) X (pos s) (sent_to_last n a X +ℤ pos d *ℤ q n)) (elim (cases_eq k n) [
          | inl e ↦ rw e (rw (with_last-at n (pos s) (sent_to_last n a X +ℤ pos d *ℤ q n) X) (last (sent_to_last n a X) (D n) (a n n) (pos s) (pos d) (q n) same))
          | inr e ↦ rw (with_last-below n (pos s) (sent_to_last n a X +ℤ pos d *ℤ q n) X k (omega arith))
              (within (pos s) (D k) (X k) (sum_below n (λ j. a k j *ℤ X j)) (a k n) (sent_to_last n a X) (pos d) (q k) (q n)
              (left.solves k (omega arith) ∙ ap (λ (z : ℤ). z +ℤ pos d *ℤ reduced_q n a q s k) (sum_below-combined n (a k) (a n) X (pos s) (a k n))))
        ])
      where
        last : (l D b s d r : ℤ) → D -ℤ b ≡ s → D *ℤ (l +ℤ d *ℤ r) ≡ s *ℤ l +ℤ b *ℤ (l +ℤ d *ℤ r) +ℤ (d *ℤ s) *ℤ r
        last l D b s d r e = rw (← e) (ring l D b d r)
          where
            ring : (l D b d r : ℤ) → D *ℤ (l +ℤ d *ℤ r) ≡ (D -ℤ b) *ℤ l +ℤ b *ℤ (l +ℤ d *ℤ r) +ℤ (d *ℤ (D -ℤ b)) *ℤ r
            ring l D b d r = rw (as_diff l, as_diff D, as_diff b, as_diff d, as_diff r) (simp diffs (same_diff _ _ _ _ (omega arith)))

        within : (s D x A b l d q r : ℤ) → (s *ℤ D) *ℤ x ≡ (s *ℤ A +ℤ b *ℤ l) +ℤ d *ℤ (s *ℤ q +ℤ b *ℤ r) → D *ℤ (s *ℤ x) ≡ s *ℤ A +ℤ b *ℤ (l +ℤ d *ℤ r) +ℤ (d *ℤ s) *ℤ q
        within s D x A b l d q r e = turn s D x ∙ e ∙ ring s A b l d q r
          where
            turn : (s D x : ℤ) → D *ℤ (s *ℤ x) ≡ (s *ℤ D) *ℤ x
            turn s D x = rw (as_diff s, as_diff D, as_diff x) (simp diffs (same_diff _ _ _ _ (omega arith)))

            ring : (s A b l d q r : ℤ) → (s *ℤ A +ℤ b *ℤ l) +ℤ d *ℤ (s *ℤ q +ℤ b *ℤ r) ≡ s *ℤ A +ℤ b *ℤ (l +ℤ d *ℤ r) +ℤ (d *ℤ s) *ℤ q
            ring s A b l d q r = rw (as_diff s, as_diff A, as_diff b, as_diff l, as_diff d, as_diff q, as_diff r) (simp diffs (same_diff _ _ _ _ (omega arith)))

reduced_nonneg : (n : ℕ) (a : ℕ → ℕ → ℤ) (s : ℕ) → ((i j : ℕ) → pos 0 ≤ℤ a i j) → (i j : ℕ) → pos 0 ≤ℤ reduced_a n a s i j
reduced_nonneg n a s nonneg i j = omega (arith, ints, mul_nonneg (pos s) (a i j) (omega (arith, ints)) (nonneg i j), mul_nonneg (a i n) (a n j) (nonneg i n) (nonneg n j))

-- a linear step whose matrix is inverse-positive has a solution
pub inverse_positive_solved : (n : ℕ) (a : ℕ → ℕ → ℤ) (D q : ℕ → ℤ) → ((i j : ℕ) → pos 0 ≤ℤ a i j) → IsInversePositive n a D → (d : ℕ) × (X : ℕ → ℤ) × IsLinearSolution n a D q d X
inverse_positive_solved zero a D q nonneg mono = (1, (λ k. pos 0), record { some = omega arith; solves = λ i h. absurd (omega arith) })
inverse_positive_solved (suc n) a D q nonneg mono =
    let (s, some, same) = positive_natural (D n -ℤ a n n) (pivot_positive n a D nonneg mono) in
    let (d, X, left) = inverse_positive_solved n (reduced_a n a s) (λ i. pos s *ℤ D i) (reduced_q n a q s) (reduced_nonneg n a s nonneg) (reduced_inverse_positive n a D s some same mono) in
    (d * s, with_last n (pos s) (sent_to_last n a X +ℤ pos d *ℤ q n) X, solution_extended n a D q s some same d X left)
