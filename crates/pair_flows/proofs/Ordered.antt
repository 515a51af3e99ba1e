-- Over the cells where x lies above y, what they gain more at y than at x sums to no less than 0, since flows between them cancel.
use Rattle.pair_flows.proofs.Common.{◌≡◌, ℕ, zero, suc, ◌<◌, ◌≤◌, refl, arith, ℤ, pos, ◌≤ℤ◌, ◌<ℤ◌, neg_ℤ, ◌+ℤ◌, ◌-ℤ◌, Bool, true, false, cond, inl, inr, int_lt, ap, sym, ◌∙◌, cases_eq, cases_Bool}
use Rattle.pair_flows.proofs.Common.{CellFlows, OrderLaw, SignsEnclose, balance, gain_from_first}
use Rattle.std.proofs.lemmas.Int.{ints, by_lt_z}

-- the sum of f over the marked cells below k
marked_sum : (ℕ → Bool) → (ℕ → ℤ) → ℕ → ℤ
marked_sum marks f zero = pos 0
marked_sum marks f (suc k) = marked_sum marks f k +ℤ cond (marks k) (f k) (pos 0)

marked_sum-add : (marks : ℕ → Bool) (f g : ℕ → ℤ) (k : ℕ) → marked_sum marks (λ i. f i +ℤ g i) k ≡ marked_sum marks f k +ℤ marked_sum marks g k
unfolding marked_sum
marked_sum-add marks f g zero = refl
marked_sum-add marks f g (suc k) = elim (cases_Bool (marks k)) [
  | inl is_in ↦ rw is_in (omega (arith, ints, marked_sum-add marks f g k))
  | inr is_out ↦ rw is_out (omega (arith, ints, marked_sum-add marks f g k))
]

marked_sum_nonneg : (marks : ℕ → Bool) (f : ℕ → ℤ) (k : ℕ) → ((i : ℕ) → i < k → marks i ≡ true → pos 0 ≤ℤ f i) → pos 0 ≤ℤ marked_sum marks f k
unfolding marked_sum
marked_sum_nonneg marks f zero each = omega (arith, ints)
marked_sum_nonneg marks f (suc k) each =
    let before = marked_sum_nonneg marks f k (λ i h. each i (omega arith)) in
    elim (cases_Bool (marks k)) [
      | inl is_in ↦ rw is_in (omega (arith, ints, before, each k (omega arith) is_in))
      | inr is_out ↦ rw is_out (omega (arith, ints, before))
    ]

marked_sum_at_most_zero : (marks : ℕ → Bool) (f : ℕ → ℤ) (k : ℕ) → ((i : ℕ) → i < k → marks i ≡ true → f i <ℤ pos 0) → marked_sum marks f k ≤ℤ pos 0
unfolding marked_sum
marked_sum_at_most_zero marks f zero each = omega (arith, ints)
marked_sum_at_most_zero marks f (suc k) each =
    let before = marked_sum_at_most_zero marks f k (λ i h. each i (omega arith)) in
    elim (cases_Bool (marks k)) [
      | inl is_in ↦ rw is_in (omega (arith, ints, before, each k (omega arith) is_in))
      | inr is_out ↦ rw is_out (omega (arith, ints, before))
    ]

-- where each marked cell has less than 0, a marked cell leaves less than 0
marked_sum_below : (marks : ℕ → Bool) (f : ℕ → ℤ) (k : ℕ) → ((i : ℕ) → i < k → marks i ≡ true → f i <ℤ pos 0) → (c : ℕ) → c < k → marks c ≡ true → marked_sum marks f k <ℤ pos 0
unfolding marked_sum
marked_sum_below marks f zero each c h marked = absurd (omega arith)
marked_sum_below marks f (suc k) each c h marked =
    let rest = marked_sum_at_most_zero marks f k (λ i l. each i (omega arith)) in
    elim (cases_eq c k) [
      | inl last ↦ let is_in : marks k ≡ true = sym (ap marks last) ∙ marked in rw is_in (omega (arith, ints, rest, each k (omega arith) is_in))
      | inr early ↦
          let before = marked_sum_below marks f k (λ i l. each i (omega arith)) c (omega arith) marked in
          elim (cases_Bool (marks k)) [
            | inl is_in ↦ rw is_in (omega (arith, ints, before, each k (omega arith) is_in))
            | inr is_out ↦ rw is_out (omega (arith, ints, before))
          ]
    ]

-- what all flows give more at the second heads than at the first
abbrev difference : CellFlows → CellFlows → CellFlows
difference f g = record { pair = λ i j. g.pair i j -ℤ f.pair i j; own = λ i. g.own i -ℤ f.own i }

gain-difference : (f g : CellFlows) (i k : ℕ) → gain_from_first (difference f g) i k ≡ gain_from_first g i k -ℤ gain_from_first f i k
gain-difference f g i zero = refl
gain-difference f g i (suc k) = omega (arith, ints, gain-difference f g i k)

module _ (n : ℕ) (d : CellFlows) (marks : ℕ → Bool) (turned : (i j : ℕ) → i < n → j < n → d.pair i j ≡ neg_ℤ (d.pair j i))
    (across : (i j : ℕ) → i < n → j < n → marks i ≡ true → marks j ≡ false → pos 0 ≤ℤ d.pair i j)
  where
    -- what a marked cell m gives to marked cells below k it gets back, and from the others it gets no less than 0
    column_of_marked : (m k : ℕ) → m < n → k ≤ n → marks m ≡ true → pos 0 ≤ℤ (marked_sum marks (λ i. d.pair i m) k +ℤ gain_from_first d m k)
    unfolding marked_sum
    column_of_marked m zero h l marked = omega (arith, ints)
    column_of_marked m (suc k) h l marked =
        let before = column_of_marked m k h (omega arith) marked in
        elim (cases_Bool (marks k)) [
          | inl is_in ↦ rw is_in (omega (arith, ints, before, turned m k h (omega arith)))
          | inr is_out ↦ rw is_out (omega (arith, ints, before, across m k h (omega arith) marked is_out))
        ]

    -- all that marked cells below k get from cells below k
    square_nonneg : (k : ℕ) → k ≤ n → pos 0 ≤ℤ marked_sum marks (λ i. gain_from_first d i k) k
    unfolding marked_sum
    square_nonneg zero h = omega (arith, ints)
    square_nonneg (suc k) h =
        let before = square_nonneg k (omega arith) in
        let wider = marked_sum-add marks (λ i. gain_from_first d i k) (λ i. d.pair i k) k in
        elim (cases_Bool (marks k)) [
          | inl is_in ↦ rw is_in (omega (arith, ints, before, wider, column_of_marked k k (omega arith) (omega arith) is_in, turned k k (omega arith) (omega arith)))
          | inr is_out ↦ rw is_out (omega (arith, ints, before, wider, marked_sum_nonneg marks (λ i. d.pair i k) k (λ i l marked. across i k (omega arith) (omega arith) marked is_out)))
        ]

    balances_nonneg : ((i : ℕ) → i < n → marks i ≡ true → pos 0 ≤ℤ d.own i) → pos 0 ≤ℤ marked_sum marks (balance n d) n
    balances_nonneg own = omega (arith, ints, marked_sum-add marks d.own (λ i. gain_from_first d i n) n, marked_sum_nonneg marks d.own n own, square_nonneg n (omega arith))

marked_is : (a b : ℤ) → a <ℤ b → int_lt a b ≡ true
marked_is a b h = grind (arith, ints)

pub is_less : (a b : ℤ) → int_lt a b ≡ true → a <ℤ b
is_less a b e = grind (arith, ints)

not_less : (a b : ℤ) → int_lt a b ≡ false → b ≤ℤ a
not_less a b e = grind (arith, ints)

pub greater_balances_lie_lower : OrderLaw
greater_balances_lie_lower n x y f g both gains c h =
    by_lt_z (y c) (x c)
    (λ higher. absurd (omega (
      arith,
      ints,
      balances_nonneg n (difference f g) above turned across own,
      marked_sum_below above (balance n (difference f g)) n less c h (marked_is _ _ higher),
    )))
    (λ lies. lies)
  where
    above : ℕ → Bool
    above i = int_lt (y i) (x i)

    turned : (i j : ℕ) → i < n → j < n → (difference f g).pair i j ≡ neg_ℤ ((difference f g).pair j i)
    turned i j k l = omega (arith, ints, both.cancel.0 i j k l, both.cancel.1 i j k l)

    across : (i j : ℕ) → i < n → j < n → above i ≡ true → above j ≡ false → pos 0 ≤ℤ (difference f g).pair i j
    across i j k l is_in is_out = omega (arith, ints, both.pair i j k l (is_less _ _ is_in) (not_less _ _ is_out))

    own : (i : ℕ) → i < n → above i ≡ true → pos 0 ≤ℤ (difference f g).own i
    own i k is_in = omega (arith, ints, both.own i k (is_less _ _ is_in))

    less : (i : ℕ) → i < n → above i ≡ true → balance n (difference f g) i <ℤ pos 0
    less i k is_in = omega (arith, ints, gain-difference f g i n, gains i k (is_less _ _ is_in))

pub signs_enclose : SignsEnclose
signs_enclose n r l h u at_l at_h at_u low high gains loses near i k = (
  greater_balances_lie_lower n l h at_l at_h low (λ j m up. omega (arith, ints, gains j m, (near j m).1)) i k,
  greater_balances_lie_lower n h u at_h at_u high (λ j m up. omega (arith, ints, loses j m, (near j m).0)) i k,
)
