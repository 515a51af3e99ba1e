-- Below all bottoms and drains a cell gets at least its deep flow besides what its links and fixed links give; over any set of cells only the links that leave it count.
use Rattle.cell_balance.proofs.Common.{◌≡◌, ℕ, ◌<◌, ◌⊎◌, inl, inr, refl, sym, ◌∙◌, arith, ℤ, pos, neg_ℤ, ◌+ℤ◌, ◌-ℤ◌, ◌≤ℤ◌, List, length, All, Bool, true, false, cond, ◌*ℤ◌, [], ◌∷◌, nat_eq, int_max}
use Rattle.cell_balance.proofs.Common.{int_min, ints, clamps, zero-*ℤ, *ℤ-zero, total, mul_nonneg, mul_mono, mul_neg, sum_inside, sum_below, All-head, All-tail}
use Rattle.cell_balance.proofs.{Deep.total-same, Deep.total_nonneg, Deep.total_at_most, Deep.total_neg, Deep.add_mul, Sums.sum-same, Sums.sum-add, Sums.sum-zero, Sums.sum-one, Sums.turned_cancel}
use Rattle.cell_balance.proofs.{Zips.WholeLink, Zips.WholeEntry, Zips.WholeCell, Zips.whole_link, Zips.whole_fixed, Zips.whole_river, Zips.whole_drain, Zips.whole_evap, Zips.whole_balance}
use Rattle.cell_balance.proofs.{Zips.whole_deep_river, Zips.whole_full, Zips.whole_deep, Zips.whole_at, Zips.IsDry}

-- Over all cells the flows over links cancel, and over any set only the links that leave it count.
-- what the links of a list conduct to the cell k
abbrev pub weight : List WholeLink → ℕ → ℤ
weight links k = total (λ x. cond (nat_eq x.cell k) (pos x.c) (pos 0)) links

-- links lead to cells of the step, and any two cells conduct the same to each other
pub record IsMutual (w : List WholeCell) : Type 0 where
  pub range : (c : ℕ) → c < length w → All (λ x. x.cell < length w) (whole_at w c).links
  pub same : (c k : ℕ) → c < length w → k < length w → weight (whole_at w c).links k ≡ weight (whole_at w k).links c

-- the flow over a list of links, by the cells that they lead to
pub by_weight : (n : ℕ) (xs : List WholeLink) (g : ℕ → ℤ) → All (λ x. x.cell < n) xs → total (λ x. pos x.c *ℤ g x.cell) xs ≡ sum_below n (λ k. weight xs k *ℤ g k)
by_weight n [] g h = sym (sum-same n _ (λ k. pos 0) (λ k i. zero-*ℤ (g k)) ∙ sum-zero n)
by_weight n (x ∷ xs) g h =
    let range = All-head (λ y. y.cell < n) x xs h in
    let others = by_weight n xs g (All-tail (λ y. y.cell < n) x xs h) in
    sym (sum-same n _ _ (λ k i. add_mul (cond (nat_eq x.cell k) (pos x.c) (pos 0)) (weight xs k) (g k))
    ∙ sum-add n (λ k. cond (nat_eq x.cell k) (pos x.c) (pos 0) *ℤ g k) (λ k. weight xs k *ℤ g k)
    ∙ rw (sum-one n x.cell (pos x.c) g range, others) refl)

-- flows that change their sign at the other end cancel
cancel : (n : ℕ) (links : ℕ → List WholeLink) (g : ℕ → ℕ → ℤ) → ((c : ℕ) → c < n → All (λ x. x.cell < n) (links c)) →
    ((c k : ℕ) → c < n → k < n → weight (links c) k ≡ weight (links k) c) → ((c k : ℕ) → g c k ≡ neg_ℤ (g k c)) →
    sum_below n (λ c. total (λ x. pos x.c *ℤ g c x.cell) (links c)) ≡ pos 0
cancel n links g range same turned =
    sum-same n _ _ (λ c i. by_weight n (links c) (g c) (range c i))
    ∙ turned_cancel n (λ c k. weight (links c) k *ℤ g c k) (λ c k i j. rw (same c k i j, turned c k) (mul_neg (weight (links k) c) (g k c)))

-- the flow over a link that leaves the set
abbrev pub cut_link : (ℕ → Bool) → (ℕ → ℤ) → ℤ → WholeLink → ℤ
cut_link inside h v x = cond (inside x.cell) (pos 0) (whole_link h v x)

total-add : {X : Type 0} (f g h : X → ℤ) (xs : List X) → ((x : X) → f x ≡ g x +ℤ h x) → total f xs ≡ total g xs +ℤ total h xs
total-add f g h [] each = refl
total-add f g h (x ∷ xs) each = rw (each x, total-add f g h xs each) (omega (arith, ints))

pub total-none : {X : Type 0} (P : X → Type 0) (f : X → ℤ) (xs : List X) → ((x : X) → P x → f x ≡ pos 0) → All P xs → total f xs ≡ pos 0
total-none P f [] each all = refl
total-none P f (x ∷ xs) each all = rw (each x (All-head P x xs all), total-none P f xs each (All-tail P x xs all)) refl

-- the difference of heads over a link inside the set, and 0 elsewhere
abbrev inner : (ℕ → Bool) → (ℕ → ℤ) → ℕ → ℕ → ℤ
inner inside Y c k = cond (inside c) (cond (inside k) (Y k -ℤ Y c) (pos 0)) (pos 0)

turned_cases : (a b : Bool) (x y : ℤ) → cond a (cond b (x -ℤ y) (pos 0)) (pos 0) ≡ neg_ℤ (cond b (cond a (y -ℤ x) (pos 0)) (pos 0))
turned_cases true true x y = omega (arith, ints)
turned_cases true false x y = refl
turned_cases false true x y = refl
turned_cases false false x y = refl

split_link : (b : Bool) (c : ℕ) (d : ℤ) → pos c *ℤ d ≡ cond b (pos 0) (pos c *ℤ d) +ℤ pos c *ℤ cond b d (pos 0)
split_link true c d = omega (arith, ints)
split_link false c d = rw *ℤ-zero (omega (arith, ints))

one_cell : (inside : ℕ → Bool) (Y : ℕ → ℤ) (y other : ℤ) (links : List WholeLink) (b : Bool) → cond b (total (whole_link Y y) links +ℤ other) (pos 0) ≡
    cond b (total (cut_link inside Y y) links +ℤ other) (pos 0) +ℤ total (λ x. pos x.c *ℤ cond b (cond (inside x.cell) (Y x.cell -ℤ y) (pos 0)) (pos 0)) links
one_cell inside Y y other links true =
    let split = total-add (whole_link Y y) (cut_link inside Y y) (λ x. pos x.c *ℤ cond (inside x.cell) (Y x.cell -ℤ y) (pos 0)) links (λ x. split_link (inside x.cell) x.c (Y x.cell -ℤ y)) in
    omega (arith, ints)
one_cell inside Y y other links false = rw (total-none (λ x. Unit {0}) (λ x. pos x.c *ℤ pos 0) links (λ x u. *ℤ-zero (pos x.c)) (λ k d i. tt)) refl

-- over any set of cells only the links that leave it count, whatever else each cell gets
pub cut_links : (w : List WholeCell) (inside : ℕ → Bool) (Y other : ℕ → ℤ) → IsMutual w →
    sum_inside (length w) inside (λ c. total (whole_link Y (Y c)) (whole_at w c).links +ℤ other c) ≡
    sum_inside (length w) inside (λ c. total (cut_link inside Y (Y c)) (whole_at w c).links +ℤ other c)
cut_links w inside Y other both =
    let n = length w in
    let none_inside = cancel n (λ c. (whole_at w c).links) (inner inside Y) both.range both.same (λ c k. turned_cases (inside c) (inside k) (Y k) (Y c)) in
    sum-same n _ _ (λ c i. one_cell inside Y (Y c) (other c) (whole_at w c).links (inside c))
    ∙ sum-add n _ (λ c. total (λ x. pos x.c *ℤ inner inside Y c x.cell) (whole_at w c).links)
    ∙ rw none_inside (omega (arith, ints))

dry_river : (y t : ℤ) → y ≤ℤ t → (x : WholeEntry) → (x.c ≡ 0) ⊎ (t ≤ℤ x.foot) → whole_river y x ≡ whole_deep_river x
dry_river y t h x (inl e) = rw e (zero-*ℤ (x.top -ℤ int_max y x.foot) ∙ sym (zero-*ℤ (x.top -ℤ x.foot)))
dry_river y t h x (inr k) = let e : int_max y x.foot ≡ x.foot = omega (arith, ints, clamps) in rw e refl

dry_drain : (y t : ℤ) → y ≤ℤ t → (x : WholeEntry) → (x.c ≡ 0) ⊎ (t ≤ℤ x.foot) → pos 0 ≤ℤ whole_drain y x
dry_drain y t h x (inl e) = rw (e, zero-*ℤ) (omega (arith, ints))
dry_drain y t h x (inr k) = let e : int_max (y -ℤ x.foot) (pos 0) ≡ pos 0 = omega (arith, ints, clamps) in rw (e, *ℤ-zero) (omega (arith, ints))

pub dry_fixed : (y t : ℤ) → y ≤ℤ t → (x : WholeEntry) → (x.c ≡ 0) ⊎ (t ≤ℤ x.top) → pos 0 ≤ℤ whole_fixed y x
dry_fixed y t h x (inl e) = rw (e, zero-*ℤ) (omega (arith, ints))
dry_fixed y t h x (inr k) = mul_nonneg (pos x.c) (x.top -ℤ y) (omega (arith, ints)) (omega (arith, ints))

-- an evaporation takes no more than its full rate
pub evap_within_full : (y : ℤ) (x : WholeEntry) → neg_ℤ (whole_full x) ≤ℤ whole_evap y x
evap_within_full y x =
    let h = mul_mono x.c (int_max (int_min y x.top -ℤ x.foot) (pos 0)) (int_max (x.top -ℤ x.foot) (pos 0)) (omega (arith, ints, clamps)) in
    omega (arith, ints, h)

-- the balance of a cell whose head lies below all bottoms and drains
pub dry_balance : (Y : ℕ → ℤ) (y t : ℤ) (w : WholeCell) → y ≤ℤ t → IsDry t w → (whole_deep w +ℤ (total (whole_link Y y) w.links +ℤ total (whole_fixed y) w.fixed)) ≤ℤ whole_balance w y Y
dry_balance Y y t w h dry =
    omega (
      arith,
      ints,
      total-same (λ x. (x.c ≡ 0) ⊎ (t ≤ℤ x.foot)) (whole_river y) whole_deep_river w.rivers (dry_river y t h) dry.rivers,
      total_nonneg (λ x. (x.c ≡ 0) ⊎ (t ≤ℤ x.foot)) (whole_drain y) w.drains (dry_drain y t h) dry.drains,
      total_at_most (λ x. Unit {0}) (λ x. neg_ℤ (whole_full x)) (whole_evap y) w.evaps (λ x u. evap_within_full y x) (λ k d i. tt),
      total_neg whole_full w.evaps,
    )
