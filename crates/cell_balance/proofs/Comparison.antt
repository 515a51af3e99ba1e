-- Where a step is held from below, heads at which no cell gains water lie nowhere below heads at which no cell loses water.
use Rattle.cell_balance.proofs.Common.{◌*ℤ◌, ◌+ℤ◌, ◌-ℤ◌, ◌<ℤ◌, ◌<◌, ◌≡◌, ◌≤ℤ◌, Bool, List, arith, inl, inr, neg_ℤ, pos, refl, suc, true, zero, ℕ, ℤ, int_lt, zero-*ℤ, by_lt_z, ints, total, mul_mono}
use Rattle.cell_balance.proofs.Common.{mul_le, mul_sub, cases_eq, sum_below}
use Rattle.cell_balance.proofs.{Scaling.cancel_le, Scaling.not_zero, Scaling.positive_natural, Sums.sum_at_most, Sums.max_of, Sums.carried_gain, Ramps.Ramp, Ramps.ramp_flow, Ramps.full_rate}
use Rattle.cell_balance.proofs.{Ramps.link_flow, Ramps.IsClosed, Ramps.AreMutual, Ramps.net_flow, Ramps.deep, Ramps.IsHeldFromBelow, RampFlows.flows_fall, RampFlows.flows_within_full}

-- Where two sums are no further apart than their terms, no two terms are apart.
-- where two sums are no further apart, no two terms are
pub sum_below-tight : (n : ℕ) (f g : ℕ → ℤ) → ((k : ℕ) → k < n → f k ≤ℤ g k) → sum_below n g ≤ℤ sum_below n f → (j : ℕ) → j < n → g j ≤ℤ f j
sum_below-tight zero f g less most j h = absurd (omega arith)
sum_below-tight (suc n) f g less most j h =
    let last = less n (omega arith) in
    let others = sum_at_most n f g (λ k i. less k (omega arith)) in
    elim (cases_eq j n) [
      | inl e ↦ rw e (omega (arith, ints))
      | inr e ↦ sum_below-tight n f g (λ k i. less k (omega arith)) (omega (arith, ints)) j (omega arith)
    ]

module _ (n : ℕ) (a : ℕ → ℕ → ℤ) (b : ℕ → ℕ) (q : ℕ → ℤ) (ramps : List Ramp) (both : AreMutual n a) (d : ℕ) (X Y : ℕ → ℤ) (some : 0 < d)
    (loses : (i : ℕ) → i < n → X i <ℤ Y i → net_flow n a b q ramps d X i ≤ℤ pos 0) (gains : (i : ℕ) → i < n → X i <ℤ Y i → pos 0 ≤ℤ net_flow n a b q ramps d Y i)
    (m : ℤ) (over : pos 0 <ℤ m) (above : (k : ℕ) → k < n → (Y k -ℤ X k) ≤ℤ m)
  where
    -- the cells where Y lies highest above X
    top : ℕ → Bool
    top k = int_lt (m -ℤ pos 1) (Y k -ℤ X k)

    top_is : (k : ℕ) → top k ≡ true → m ≤ℤ (Y k -ℤ X k)
    unfolding top
    top_is k e = grind (arith, ints)

    is_top : (k : ℕ) → m ≤ℤ (Y k -ℤ X k) → top k ≡ true
    unfolding top
    is_top k h = grind (arith, ints)

    higher : (k : ℕ) → m ≤ℤ (Y k -ℤ X k) → X k <ℤ Y k
    higher k h = omega (arith, ints)

    -- at such a cell each flow at Y is at most the one at X
    link_less : (k j : ℕ) → m ≤ℤ (Y k -ℤ X k) → j < n → (a k j *ℤ (Y j -ℤ Y k)) ≤ℤ (a k j *ℤ (X j -ℤ X k))
    link_less k j h i = mul_le _ _ (a k j) (both.nonneg k j) (omega (arith, ints, above j i))

    links_less : (k : ℕ) → m ≤ℤ (Y k -ℤ X k) → link_flow n a Y k ≤ℤ link_flow n a X k
    links_less k h = sum_at_most n _ _ (λ j i. link_less k j h i)

    own_less : (k : ℕ) → m ≤ℤ (Y k -ℤ X k) → (pos d *ℤ q k -ℤ pos (b k) *ℤ Y k) ≤ℤ (pos d *ℤ q k -ℤ pos (b k) *ℤ X k)
    own_less k h = omega (arith, ints, mul_mono (b k) (X k) (Y k) (omega (arith, ints, higher k h)))

    ramps_less : (k : ℕ) → m ≤ℤ (Y k -ℤ X k) → total (ramp_flow d (Y k) k) ramps ≤ℤ total (ramp_flow d (X k) k) ramps
    ramps_less k h = flows_fall d (X k) (Y k) k ramps (omega (arith, ints, higher k h))

    -- so each is the same
    links_same : (k : ℕ) → k < n → m ≤ℤ (Y k -ℤ X k) → link_flow n a X k ≤ℤ link_flow n a Y k
    links_same k i h = omega (arith, ints, loses k i (higher k h), gains k i (higher k h), own_less k h, ramps_less k h)

    own_same : (k : ℕ) → k < n → m ≤ℤ (Y k -ℤ X k) → (pos d *ℤ q k -ℤ pos (b k) *ℤ X k) ≤ℤ (pos d *ℤ q k -ℤ pos (b k) *ℤ Y k)
    own_same k i h = omega (arith, ints, loses k i (higher k h), gains k i (higher k h), links_less k h, ramps_less k h)

    ramps_same : (k : ℕ) → k < n → m ≤ℤ (Y k -ℤ X k) → total (ramp_flow d (X k) k) ramps ≤ℤ total (ramp_flow d (Y k) k) ramps
    ramps_same k i h = omega (arith, ints, loses k i (higher k h), gains k i (higher k h), links_less k h, own_less k h)

    -- no link leaves the set
    closed : IsClosed n a top
    closed k j i h inside conducts =
        let high = top_is k inside in
        let tight = sum_below-tight n _ _ (λ z zi. link_less k z high zi) (links_same k i high) j h in
        let (s, some_s, e) = positive_natural (a k j) conducts in
        is_top j (omega (arith, ints, cancel_le s _ _ some_s (rw e at tight)))

    -- and no known head conducts there
    loose : (k : ℕ) → k < n → top k ≡ true → b k ≡ 0
    loose k i inside = none (b k) (X k) (Y k) (higher k (top_is k inside)) (omega (arith, ints, own_same k i (top_is k inside)))
      where
        none : (b : ℕ) (x y : ℤ) → x <ℤ y → (pos b *ℤ y) ≤ℤ (pos b *ℤ x) → b ≡ 0
        none zero x y h k = refl
        none (suc b) x y h k = absurd (omega (arith, ints, cancel_le (suc b) y x (omega arith) k))

    deep_at_most : (k : ℕ) → k < n → top k ≡ true → (link_flow n a Y k +ℤ pos d *ℤ deep n a b q ramps k) ≤ℤ pos 0
    deep_at_most k i inside =
        let high = top_is k inside in
        let none : pos (b k) *ℤ Y k ≡ pos 0 = rw (loose k i inside) (zero-*ℤ (Y k)) in
        step (pos d) (q k) (total (full_rate k) ramps) _ _ _ _ _ _ none (loses k i (higher k high)) (links_less k high) (own_less k high) (ramps_less k high)
        (flows_within_full d (X k) (Y k) k ramps (higher k high) (ramps_same k i high))
      where
        step : (d q f l l' o r r' y : ℤ) → y ≡ pos 0 → (l +ℤ o +ℤ r) ≤ℤ pos 0 → l' ≤ℤ l → (d *ℤ q -ℤ y) ≤ℤ o → r' ≤ℤ r → neg_ℤ (d *ℤ f) ≤ℤ r' → (l' +ℤ d *ℤ (q -ℤ f)) ≤ℤ pos 0
        step d q f l l' o r r' y none h p s t u = rw (mul_sub d q f) (omega (arith, ints))

    pub no_highest : IsHeldFromBelow n a b q ramps → (c : ℕ) → c < n → Y c -ℤ X c ≡ m → ⊥
    no_highest held c i e =
        let (T, carried) = held top closed loose c i (is_top c (omega (arith, ints))) in
        carried_gain n a T Y (deep n a b q ramps) d both carried.closed some carried.carries (λ k h inside. deep_at_most k h (carried.within k h inside))

-- where each cell with a higher head in Y than in X gains no water at X and loses none at Y, there is none
pub heads_compare : (n : ℕ) (a : ℕ → ℕ → ℤ) (b : ℕ → ℕ) (q : ℕ → ℤ) (ramps : List Ramp) → AreMutual n a → IsHeldFromBelow n a b q ramps →
    (d : ℕ) (X Y : ℕ → ℤ) → 0 < d → ((i : ℕ) → i < n → X i <ℤ Y i → net_flow n a b q ramps d X i ≤ℤ pos 0) → ((i : ℕ) → i < n → X i <ℤ Y i → pos 0 ≤ℤ net_flow n a b q ramps d Y i) →
    (i : ℕ) → i < n → Y i ≤ℤ X i
heads_compare n a b q ramps both held d X Y some loses gains i h =
    let (m, nonneg, above, at) = max_of (λ k. Y k -ℤ X k) n in
    by_lt_z (pos 0) m
    (λ over.
    elim at [
      | inl none ↦ absurd (not_zero m over none)
      | inr (c, inside, e) ↦ absurd (no_highest n a b q ramps both d X Y some loses gains m over above held c inside e)
    ])
    (λ le. omega (arith, ints, above i h))
