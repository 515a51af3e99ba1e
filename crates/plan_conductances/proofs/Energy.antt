-- Rayleigh's law in whole numbers, by sums of squares over links: of two networks with the same flow into one cell, the head there is no greater where more is conducted.
use Rattle.plan_conductances.proofs.Common.{AreMutual, link_flow, cancel_le, positive_natural, ◌≡◌, ℕ, zero, suc, ◌<◌, ◌≤◌, ap, sym, refl, ◌∙◌, arith, cond, nat_eq, ℤ, pos, negsuc, neg_ℤ, ◌+ℤ◌, ◌-ℤ◌}
use Rattle.plan_conductances.proofs.Common.{◌*ℤ◌, ◌≤ℤ◌, ◌<ℤ◌, sum_below, as_diff, diffs, mul_nonneg, same_diff, mul_mono_right, ints}
use Rattle.cell_balance.proofs.Sums.{sum-add, sum-neg, sum-one, sum-same, sum-swap, sum-times, sum_at_most, sum_nonneg, turned_cancel}

square_nonneg : (z : ℤ) → pos 0 ≤ℤ (z *ℤ z)
square_nonneg (pos n) = omega (arith, ints)
square_nonneg (negsuc n) = omega (arith, ints)

-- a larger factor of what isn't negative
times_more : (a b z : ℤ) → a ≤ℤ b → pos 0 ≤ℤ z → (a *ℤ z) ≤ℤ (b *ℤ z)
times_more a b (pos k) h some = mul_mono_right k a b h
times_more a b (negsuc k) h some = absurd (omega (arith, ints))

sums_add : (n : ℕ) (f g : ℕ → ℕ → ℤ) → sum_below n (λ i. sum_below n (λ j. f i j +ℤ g i j)) ≡ sum_below n (λ i. sum_below n (f i)) +ℤ sum_below n (λ i. sum_below n (g i))
sums_add n f g = sum-same n _ _ (λ i h. sum-add n (f i) (g i)) ∙ sum-add n (λ i. sum_below n (f i)) (λ i. sum_below n (g i))

four_sums : (n : ℕ) (f g h k : ℕ → ℤ) → sum_below n (λ i. f i -ℤ g i -ℤ h i +ℤ k i) ≡ sum_below n f -ℤ sum_below n g -ℤ sum_below n h +ℤ sum_below n k
four_sums zero f g h k = refl
four_sums (suc n) f g h k = rw (four_sums n f g h k) (omega (arith, ints))

module _ (n : ℕ) (a : ℕ → ℕ → ℤ) where
  -- over all pairs of cells: what flows over their link at the heads X, times the head of Y where it leaves
  abbrev over_links : (ℕ → ℤ) → (ℕ → ℤ) → ℤ
  over_links X Y = sum_below n (λ i. sum_below n (λ j. a i j *ℤ (Y i *ℤ (X i -ℤ X j))))

  abbrev squares : (ℕ → ℤ) → ℤ
  squares V = sum_below n (λ i. sum_below n (λ j. a i j *ℤ ((V i -ℤ V j) *ℤ (V i -ℤ V j))))

  links_turn : AreMutual n a → (X Y : ℕ → ℤ) → over_links X Y ≡ over_links Y X
  links_turn both X Y =
      sum-same n _ _ (λ i h. sum-same n _ _ (λ j k. parts (a i j) (X i) (X j) (Y i) (Y j)))
      ∙ sums_add n (λ i j. a i j *ℤ (X i *ℤ (Y i -ℤ Y j))) (λ i j. a i j *ℤ (X i *ℤ Y j -ℤ Y i *ℤ X j))
      ∙ rw (turned_cancel n (λ i j. a i j *ℤ (X i *ℤ Y j -ℤ Y i *ℤ X j)) (λ i j h k. rw (both.same i j h k) (turned (a j i) (X i) (X j) (Y i) (Y j)))) (omega (arith, ints))
    where
      parts : (a x u y v : ℤ) → a *ℤ (y *ℤ (x -ℤ u)) ≡ a *ℤ (x *ℤ (y -ℤ v)) +ℤ a *ℤ (x *ℤ v -ℤ y *ℤ u)
      parts a x u y v = rw (as_diff a, as_diff x, as_diff u, as_diff y, as_diff v) (simp diffs (same_diff _ _ _ _ (omega arith)))

      turned : (a x u y v : ℤ) → a *ℤ (x *ℤ v -ℤ y *ℤ u) ≡ neg_ℤ (a *ℤ (u *ℤ y -ℤ v *ℤ x))
      turned a x u y v = rw (as_diff a, as_diff x, as_diff u, as_diff y, as_diff v) (simp diffs (same_diff _ _ _ _ (omega arith)))

  -- twice the sum is one of squares, since each link stands in it from both ends
  twice : AreMutual n a → (V : ℕ → ℤ) → over_links V V +ℤ over_links V V ≡ squares V
  twice both V =
      ap (λ (z : ℤ). over_links V V +ℤ z) other_ends
      ∙ sym (sum-same n _ _ (λ i h. sum-same n _ _ (λ j k. split (a i j) (V i) (V j))) ∙ sums_add n (λ i j. a i j *ℤ (V i *ℤ (V i -ℤ V j))) (λ i j. a i j *ℤ (V j *ℤ (V j -ℤ V i))))
    where
      other_ends : over_links V V ≡ sum_below n (λ i. sum_below n (λ j. a i j *ℤ (V j *ℤ (V j -ℤ V i))))
      other_ends =
          sum-same n _ _ (λ i h. sum-same n _ _ (λ j k. ap (λ (z : ℤ). z *ℤ (V i *ℤ (V i -ℤ V j))) (both.same i j h k)))
          ∙ sum-swap n n (λ i j. a j i *ℤ (V i *ℤ (V i -ℤ V j)))

      split : (a v u : ℤ) → a *ℤ ((v -ℤ u) *ℤ (v -ℤ u)) ≡ a *ℤ (v *ℤ (v -ℤ u)) +ℤ a *ℤ (u *ℤ (u -ℤ v))
      split a v u = rw (as_diff a, as_diff v, as_diff u) (simp diffs (same_diff _ _ _ _ (omega arith)))

  -- what leaves cell i at the heads X, where b i is its conductance to a known head of 0
  abbrev pub leaving : (ℕ → ℕ) → (ℕ → ℤ) → ℕ → ℤ
  leaving b X i = pos (b i) *ℤ X i -ℤ link_flow n a X i

  abbrev to_known : (ℕ → ℕ) → (ℕ → ℤ) → (ℕ → ℤ) → ℤ
  to_known b X Y = sum_below n (λ i. pos (b i) *ℤ (X i *ℤ Y i))

  -- and, times the head of Y there, over all cells
  abbrev work : (ℕ → ℕ) → (ℕ → ℤ) → (ℕ → ℤ) → ℤ
  work b X Y = sum_below n (λ i. leaving b X i *ℤ Y i)

  work_is : (b : ℕ → ℕ) (X Y : ℕ → ℤ) → work b X Y ≡ to_known b X Y +ℤ over_links X Y
  work_is b X Y = sum-same n _ _ (λ i h. row i) ∙ sum-add n (λ i. pos (b i) *ℤ (X i *ℤ Y i)) (λ i. sum_below n (λ j. a i j *ℤ (Y i *ℤ (X i -ℤ X j))))
    where
      link : (a x u y : ℤ) → (a *ℤ (u -ℤ x)) *ℤ y ≡ neg_ℤ (a *ℤ (y *ℤ (x -ℤ u)))
      link a x u y = rw (as_diff a, as_diff x, as_diff u, as_diff y) (simp diffs (same_diff _ _ _ _ (omega arith)))

      out : (b x l y s : ℤ) → l *ℤ y ≡ neg_ℤ s → (b *ℤ x -ℤ l) *ℤ y ≡ b *ℤ (x *ℤ y) +ℤ s
      out b x l y s e = apart b x l y ∙ (omega (arith, ints))
        where
          apart : (b x l y : ℤ) → (b *ℤ x -ℤ l) *ℤ y ≡ b *ℤ (x *ℤ y) -ℤ l *ℤ y
          apart b x l y = rw (as_diff b, as_diff x, as_diff l, as_diff y) (simp diffs (same_diff _ _ _ _ (omega arith)))

      row : (i : ℕ) → leaving b X i *ℤ Y i ≡ pos (b i) *ℤ (X i *ℤ Y i) +ℤ sum_below n (λ j. a i j *ℤ (Y i *ℤ (X i -ℤ X j)))
      row i = out (pos (b i)) (X i) (link_flow n a X i) (Y i) _
          (sum-times n (λ j. a i j *ℤ (X j -ℤ X i)) (Y i) ∙ sum-same n _ _ (λ j h. link (a i j) (X i) (X j) (Y i)) ∙ sum-neg n (λ j. a i j *ℤ (Y i *ℤ (X i -ℤ X j))))

  work_turns : AreMutual n a → (b : ℕ → ℕ) (X Y : ℕ → ℤ) → work b X Y ≡ work b Y X
  work_turns both b X Y =
      work_is b X Y ∙ ap (λ (z : ℤ). z +ℤ over_links X Y) (sum-same n _ _ (λ i h. ring (pos (b i)) (X i) (Y i)))
      ∙ ap (λ (z : ℤ). to_known b Y X +ℤ z) (links_turn both X Y) ∙ sym (work_is b Y X)
    where
      ring : (b x y : ℤ) → b *ℤ (x *ℤ y) ≡ b *ℤ (y *ℤ x)
      ring b x y = rw (as_diff b, as_diff x, as_diff y) (simp diffs (same_diff _ _ _ _ (omega arith)))

  -- of a difference of heads
  work_apart : (b : ℕ → ℕ) (X Y : ℕ → ℤ) → work b (λ i. X i -ℤ Y i) (λ i. X i -ℤ Y i) ≡ work b X X -ℤ work b X Y -ℤ work b Y X +ℤ work b Y Y
  work_apart b X Y =
      sum-same n _ _ (λ i h. ap (λ (z : ℤ). (pos (b i) *ℤ (X i -ℤ Y i) -ℤ z) *ℤ (X i -ℤ Y i)) (links i) ∙ ring (pos (b i)) (X i) (Y i) (link_flow n a X i) (link_flow n a Y i))
      ∙ four_sums n (λ i. leaving b X i *ℤ X i) (λ i. leaving b X i *ℤ Y i) (λ i. leaving b Y i *ℤ X i) (λ i. leaving b Y i *ℤ Y i)
    where
      one : (a x y u v : ℤ) → a *ℤ ((u -ℤ v) -ℤ (x -ℤ y)) ≡ a *ℤ (u -ℤ x) +ℤ neg_ℤ (a *ℤ (v -ℤ y))
      one a x y u v = rw (as_diff a, as_diff x, as_diff y, as_diff u, as_diff v) (simp diffs (same_diff _ _ _ _ (omega arith)))

      links : (i : ℕ) → link_flow n a (λ i. X i -ℤ Y i) i ≡ link_flow n a X i +ℤ neg_ℤ (link_flow n a Y i)
      links i =
          sum-same n _ _ (λ j h. one (a i j) (X i) (Y i) (X j) (Y j))
          ∙ sum-add n (λ j. a i j *ℤ (X j -ℤ X i)) (λ j. neg_ℤ (a i j *ℤ (Y j -ℤ Y i)))
          ∙ ap (λ (z : ℤ). link_flow n a X i +ℤ z) (sum-neg n (λ j. a i j *ℤ (Y j -ℤ Y i)))

      ring : (b x y l m : ℤ) → (b *ℤ (x -ℤ y) -ℤ (l +ℤ neg_ℤ m)) *ℤ (x -ℤ y) ≡ (b *ℤ x -ℤ l) *ℤ x -ℤ (b *ℤ x -ℤ l) *ℤ y -ℤ (b *ℤ y -ℤ m) *ℤ x +ℤ (b *ℤ y -ℤ m) *ℤ y
      ring b x y l m = rw (as_diff b, as_diff x, as_diff y, as_diff l, as_diff m) (simp diffs (same_diff _ _ _ _ (omega arith)))

  work_nonneg : AreMutual n a → (b : ℕ → ℕ) (V : ℕ → ℤ) → pos 0 ≤ℤ work b V V
  work_nonneg both b V =
      let over = sum_nonneg n _ (λ i h. sum_nonneg n _ (λ j k. mul_nonneg (a i j) _ (both.nonneg i j) (square_nonneg (V i -ℤ V j)))) in
      let known : pos 0 ≤ℤ to_known b V V = sum_nonneg n _ (λ i h. mul_nonneg (pos (b i)) _ (omega (arith, ints)) (square_nonneg (V i))) in
      halved _ _ _ _ (work_is b V V) (twice both V) over known
    where
      halved : (w k l s : ℤ) → w ≡ k +ℤ l → l +ℤ l ≡ s → pos 0 ≤ℤ s → pos 0 ≤ℤ k → pos 0 ≤ℤ w
      halved w k l s e f h j = omega (arith, ints)

-- where more is conducted, the same heads do more work
work_grows : (n : ℕ) (a c : ℕ → ℕ → ℤ) (b d : ℕ → ℕ) (V : ℕ → ℤ) → AreMutual n a → AreMutual n c → ((i j : ℕ) → i < n → j < n → a i j ≤ℤ c i j) →
    ((i : ℕ) → i < n → b i ≤ d i) → work n a b V V ≤ℤ work n c d V V
work_grows n a c b d V both also links known =
    let over = sum_at_most n _ _ (λ i h. sum_at_most n _ _ (λ j k. times_more (a i j) (c i j) _ (links i j h k) (square_nonneg (V i -ℤ V j)))) in
    let heads : to_known n a b V V ≤ℤ to_known n c d V V = sum_at_most n _ _ (λ i h. times_more (pos (b i)) (pos (d i)) _ (omega (arith, ints, known i h)) (square_nonneg (V i))) in
    halved _ _ _ _ _ _ _ _ (work_is n a b V V) (twice n a both V) (work_is n c d V V) (twice n c also V) over heads
  where
    halved : (w k l s x y z t : ℤ) → w ≡ k +ℤ l → l +ℤ l ≡ s → x ≡ y +ℤ z → z +ℤ z ≡ t → s ≤ℤ t → k ≤ℤ y → w ≤ℤ x
    halved w k l s x y z t e f g h i j = omega (arith, ints)

-- a flow of t at cell w alone, times the heads
work_at_well : (n : ℕ) (a : ℕ → ℕ → ℤ) (b : ℕ → ℕ) (X Y : ℕ → ℤ) (w : ℕ) (t : ℤ) → w < n → ((i : ℕ) → i < n → leaving n a b X i ≡ cond (nat_eq w i) t (pos 0)) →
    work n a b X Y ≡ t *ℤ Y w
work_at_well n a b X Y w t inside solves = sum-same n _ _ (λ i h. ap (λ (z : ℤ). z *ℤ Y i) (solves i h)) ∙ sum-one n w t Y inside

-- Rayleigh's law: the flow t leaves cell w at the heads X of the one network and at the heads Y of the other, which conducts at least as much.
pub head_falls : (n : ℕ) (a c : ℕ → ℕ → ℤ) (b d : ℕ → ℕ) (X Y : ℕ → ℤ) (w : ℕ) (t : ℤ) → AreMutual n a → AreMutual n c → ((i j : ℕ) → i < n → j < n → a i j ≤ℤ c i j) →
    ((i : ℕ) → i < n → b i ≤ d i) → w < n → pos 0 <ℤ t → ((i : ℕ) → i < n → leaving n a b X i ≡ cond (nat_eq w i) t (pos 0)) →
    ((i : ℕ) → i < n → leaving n c d Y i ≡ cond (nat_eq w i) t (pos 0)) → Y w ≤ℤ X w
head_falls n a c b d X Y w t both also links known inside some less more =
    let (s, above, is) = positive_natural t some in
    cancel_le s (Y w) (X w) above (rw (← is) (apart _ _ _ _ _ _ (work_nonneg n a both b (λ i. X i -ℤ Y i)) (work_apart n a b X Y) (work_grows n a c b d Y both also links known)
    (work_at_well n a b X X w t inside less) (work_at_well n a b X Y w t inside less) (work_turns n a both b Y X) (work_at_well n c d Y Y w t inside more)))
  where
    apart : (v x y z u m : ℤ) → pos 0 ≤ℤ v → v ≡ x -ℤ y -ℤ z +ℤ u → u ≤ℤ m → x ≡ t *ℤ X w → y ≡ t *ℤ Y w → z ≡ y → m ≡ t *ℤ Y w → (t *ℤ Y w) ≤ℤ (t *ℤ X w)
    apart v x y z u m h e g p q r s = omega (arith, ints)
