-- Sums over the cells below a number, and the greatest value of a function there.
use Rattle.cell_balance.proofs.Common.{◌≡◌, ℕ, suc, zero, ◌<◌, ◌⊎◌, inl, inr, refl, arith, ℤ, pos, ◌≤ℤ◌, ◌<ℤ◌, ◌≤◌, sym, ◌∙◌, neg_ℤ, ◌+ℤ◌, ◌*ℤ◌, cond, nat_eq, ◌-ℤ◌, Bool, false, true, cases_lt}
use Rattle.cell_balance.proofs.Common.{cases_eq, ne_eqb, eq-eqb, true≢false, ints, by_lt_z, zero-*ℤ, *ℤ-zero, sum_below, sum_inside, as_diff, diffs, mul_add, same_diff}
use Rattle.cell_balance.proofs.{Deep.add_mul, Scaling.cancel_le, Ramps.link_flow, Ramps.IsClosed, Ramps.AreMutual}

-- the greatest of e below n, or 0
pub max_of : (e : ℕ → ℤ) (n : ℕ) → (m : ℤ) × (pos 0 ≤ℤ m) × ((k : ℕ) → k < n → e k ≤ℤ m) × ((m ≡ pos 0) ⊎ ((c : ℕ) × (c < n) × (e c ≡ m)))
max_of e zero = (pos 0, omega (arith, ints), (λ k h. absurd (omega arith)), inl refl)
max_of e (suc n) =
    let (m, some, above, at) = max_of e n in
    by_lt_z m (e n)
    (λ h. (e n, omega (arith, ints), (λ k i. elim (last_or k n i) [ inl s ↦ (omega (arith, ints, above k s)) | inr s ↦ rw s (omega (arith, ints)) ]), inr (n, omega arith, refl)))
    (λ h. (m, some, (λ k i. elim (last_or k n i) [ inl s ↦ above k s | inr s ↦ rw s h ]), elim at [ inl z ↦ inl z | inr w ↦ inr (w.0, omega arith, w.2) ]))
  where
    last_or : (k n : ℕ) → k < suc n → (k < n) ⊎ (k ≡ n)
    last_or k n i = elim (cases_lt k n) [ inl h ↦ inl h | inr h ↦ inr (omega arith) ]

pub sum-same : (n : ℕ) (f g : ℕ → ℤ) → ((k : ℕ) → k < n → f k ≡ g k) → sum_below n f ≡ sum_below n g
sum-same zero f g h = refl
sum-same (suc n) f g h = rw (sum-same n f g (λ k i. h k (omega arith)), h n (omega arith)) refl

pub sum-add : (n : ℕ) (f g : ℕ → ℤ) → sum_below n (λ k. f k +ℤ g k) ≡ sum_below n f +ℤ sum_below n g
sum-add zero f g = refl
sum-add (suc n) f g = rw (sum-add n f g) (omega (arith, ints))

-- over the cells that pass a test
pub sum_inside-add : (n : ℕ) (T : ℕ → Bool) (f g : ℕ → ℤ) → sum_inside n T (λ k. f k +ℤ g k) ≡ sum_inside n T f +ℤ sum_inside n T g
sum_inside-add n T f g = sum-same n _ _ (λ k h. apart (T k) (f k) (g k)) ∙ sum-add n (λ k. cond (T k) (f k) (pos 0)) (λ k. cond (T k) (g k) (pos 0))
  where
    apart : (s : Bool) (x y : ℤ) → cond s (x +ℤ y) (pos 0) ≡ cond s x (pos 0) +ℤ cond s y (pos 0)
    apart true x y = refl
    apart false x y = refl

pub sum-neg : (n : ℕ) (f : ℕ → ℤ) → sum_below n (λ k. neg_ℤ (f k)) ≡ neg_ℤ (sum_below n f)
sum-neg zero f = refl
sum-neg (suc n) f = rw (sum-neg n f) (omega (arith, ints))

pub sum-zero : (n : ℕ) → sum_below n (λ k. pos 0) ≡ pos 0
sum-zero zero = refl
sum-zero (suc n) = rw (sum-zero n) refl

pub sum-times : (n : ℕ) (f : ℕ → ℤ) (k : ℤ) → sum_below n f *ℤ k ≡ sum_below n (λ c. f c *ℤ k)
sum-times zero f k = zero-*ℤ k
sum-times (suc n) f k = rw (add_mul, sum-times n f k) refl

-- the order of two sums does not matter
pub sum-swap : (n m : ℕ) (f : ℕ → ℕ → ℤ) → sum_below n (λ i. sum_below m (λ j. f i j)) ≡ sum_below m (λ j. sum_below n (λ i. f i j))
sum-swap zero m f = sym (sum-zero m)
sum-swap (suc n) m f = rw (sum-swap n m f) (sym (sum-add m (λ j. sum_below n (λ i. f i j)) (λ j. f n j)))

-- terms that change their sign with their two indices cancel
pub turned_cancel : (n : ℕ) (f : ℕ → ℕ → ℤ) → ((i j : ℕ) → i < n → j < n → f i j ≡ neg_ℤ (f j i)) → sum_below n (λ i. sum_below n (f i)) ≡ pos 0
turned_cancel n f turned =
    omega (
      arith,
      ints,
      sum-same n _ _ (λ i h. sum-same n _ _ (λ j k. turned i j h k)) ∙ sum-swap n n (λ i j. neg_ℤ (f j i)) ∙ sum-same n _ _ (λ j h.
          sum-neg n (f j)) ∙ sum-neg n (λ j. sum_below n (f j)),
    )

pub sum_at_most : (n : ℕ) (f g : ℕ → ℤ) → ((k : ℕ) → k < n → f k ≤ℤ g k) → sum_below n f ≤ℤ sum_below n g
sum_at_most zero f g h = omega (arith, ints)
sum_at_most (suc n) f g h = let a = sum_at_most n f g (λ k i. h k (omega arith)) in let b = h n (omega arith) in omega (arith, ints, a, b)

-- over the cells that pass a test: terms that are at most others, also scaled, and terms that are zero
pub sum_inside_at_most : (n : ℕ) (T : ℕ → Bool) (f g : ℕ → ℤ) → ((k : ℕ) → k < n → T k ≡ true → f k ≤ℤ g k) → sum_inside n T f ≤ℤ sum_inside n T g
sum_inside_at_most n T f g each = sum_at_most n _ _ (λ k h. cell k h (T k) refl)
  where
    cell : (k : ℕ) → k < n → (s : Bool) → T k ≡ s → cond s (f k) (pos 0) ≤ℤ cond s (g k) (pos 0)
    cell k h true e = each k h e
    cell k h false e = omega (arith, ints)

pub sum_inside_times : (n : ℕ) (T : ℕ → Bool) (f g : ℕ → ℤ) (m : ℤ) → ((k : ℕ) → k < n → T k ≡ true → (f k *ℤ m) ≤ℤ g k) → (sum_inside n T f *ℤ m) ≤ℤ sum_inside n T g
sum_inside_times n T f g m each = rw (sum-times n (λ k. cond (T k) (f k) (pos 0)) m) (sum_at_most n _ _ (λ k h. cell k h (T k) refl))
  where
    cell : (k : ℕ) → k < n → (s : Bool) → T k ≡ s → (cond s (f k) (pos 0) *ℤ m) ≤ℤ cond s (g k) (pos 0)
    cell k h true e = each k h e
    cell k h false e = rw (zero-*ℤ m) (omega (arith, ints))

pub sum_inside-zero : (n : ℕ) (T : ℕ → Bool) (f : ℕ → ℤ) → ((k : ℕ) → k < n → f k ≡ pos 0) → sum_inside n T f ≡ pos 0
sum_inside-zero n T f each = sum-same n _ (λ k. pos 0) (λ k h. elim (T k) as (λ s. cond s (f k) (pos 0) ≡ pos 0) [ true ↦ each k h | false ↦ refl ]) ∙ sum-zero n

pub sum_nonneg : (n : ℕ) (f : ℕ → ℤ) → ((k : ℕ) → k < n → pos 0 ≤ℤ f k) → pos 0 ≤ℤ sum_below n f
sum_nonneg zero f h = omega (arith, ints)
sum_nonneg (suc n) f h = let a = sum_nonneg n f (λ k i. h k (omega arith)) in let b = h n (omega arith) in omega (arith, ints, a, b)

-- a term is at most the sum, where none is negative
pub term-le-sum : (n : ℕ) (f : ℕ → ℤ) → ((k : ℕ) → k < n → pos 0 ≤ℤ f k) → (c : ℕ) → c < n → f c ≤ℤ sum_below n f
term-le-sum zero f h c i = absurd (omega arith)
term-le-sum (suc n) f h c i =
    let a = sum_nonneg n f (λ k j. h k (omega arith)) in
    let b = h n (omega arith) in
    elim (cases_eq c n) [
      | inl e ↦ rw e (omega (arith, ints, a, b))
      | inr e ↦ let d = term-le-sum n f (λ k j. h k (omega arith)) c (omega arith) in omega (arith, ints, b, d)
    ]

-- a sum of which one term alone may be other than zero
at_other : (k j : ℕ) (c b : ℤ) → (k ≡ j → ⊥) → cond (nat_eq k j) c (pos 0) *ℤ b ≡ pos 0
at_other k j c b h = rw (ne_eqb k j h) (zero-*ℤ b)

sum-none : (n k : ℕ) (c : ℤ) (g : ℕ → ℤ) → n ≤ k → sum_below n (λ j. cond (nat_eq k j) c (pos 0) *ℤ g j) ≡ pos 0
sum-none n k c g h = sum-same n _ (λ j. pos 0) (λ j i. at_other k j c (g j) (λ e. omega arith)) ∙ sum-zero n

pub sum-one : (n k : ℕ) (c : ℤ) (g : ℕ → ℤ) → k < n → sum_below n (λ j. cond (nat_eq k j) c (pos 0) *ℤ g j) ≡ c *ℤ g k
sum-one zero k c g h = absurd (omega arith)
sum-one (suc n) k c g h =
    elim (cases_eq k n) [
      | inl e ↦ rw (sum-none n k c g (omega arith), eq-eqb k n e, e) (omega (arith, ints))
      | inr e ↦ rw (at_other k n c (g n) e, sum-one n k c g (omega arith)) (omega (arith, ints))
    ]

-- Over a set of cells that no link leaves the flows over links cancel; so where its deep flows sum above 0, some cell gains water.
-- the flow from j into i, where both are inside
abbrev inside_flow : (ℕ → Bool) → (ℕ → ℕ → ℤ) → (ℕ → ℤ) → ℕ → ℕ → ℤ
inside_flow T a Y i j = cond (T i) (cond (T j) (a i j *ℤ (Y j -ℤ Y i)) (pos 0)) (pos 0)

inside_flow_turned : (s t : Bool) (a b y z : ℤ) → a ≡ b → cond s (cond t (a *ℤ (y -ℤ z)) (pos 0)) (pos 0) ≡ neg_ℤ (cond t (cond s (b *ℤ (z -ℤ y)) (pos 0)) (pos 0))
inside_flow_turned true true a b y z e = rw e (ring b y z)
  where
    ring : (b y z : ℤ) → b *ℤ (y -ℤ z) ≡ neg_ℤ (b *ℤ (z -ℤ y))
    ring b y z = rw (as_diff b, as_diff y, as_diff z) (simp diffs (same_diff _ _ _ _ (omega arith)))
inside_flow_turned true false a b y z e = refl
inside_flow_turned false true a b y z e = refl
inside_flow_turned false false a b y z e = refl

pub link_flows_cancel : (n : ℕ) (a : ℕ → ℕ → ℤ) (T : ℕ → Bool) (Y : ℕ → ℤ) → AreMutual n a → IsClosed n a T → sum_inside n T (link_flow n a Y) ≡ pos 0
link_flows_cancel n a T Y both closed = sum-same n _ _ (λ i h. row i h (T i) refl) ∙ turned_cancel n (inside_flow T a Y) (λ i j h k.
    inside_flow_turned (T i) (T j) (a i j) (a j i) (Y j) (Y i) (both.same i j h k))
  where
    none : (i j : ℕ) → i < n → j < n → T i ≡ true → T j ≡ false → (z : ℤ) → a i j *ℤ z ≡ pos 0
    none i j h k inside outside z =
        by_lt_z (pos 0) (a i j)
        (λ lt. absurd (true≢false (sym (closed i j h k inside lt) ∙ outside)))
        (λ le. let e : a i j ≡ pos 0 = omega (arith, ints, both.nonneg i j) in rw e (zero-*ℤ z))

    term : (i j : ℕ) → i < n → j < n → T i ≡ true → (t : Bool) → T j ≡ t → a i j *ℤ (Y j -ℤ Y i) ≡ cond t (a i j *ℤ (Y j -ℤ Y i)) (pos 0)
    term i j h k inside true e = refl
    term i j h k inside false e = none i j h k inside e (Y j -ℤ Y i)

    row : (i : ℕ) → i < n → (s : Bool) → T i ≡ s → cond s (link_flow n a Y i) (pos 0) ≡ sum_below n (λ j. cond s (cond (T j) (a i j *ℤ (Y j -ℤ Y i)) (pos 0)) (pos 0))
    row i h true e = sum-same n _ _ (λ j k. term i j h k e (T j) refl)
    row i h false e = sym (sum-zero n)

-- over a closed set whose flows g sum above 0 not every cell loses water
pub carried_gain : (n : ℕ) (a : ℕ → ℕ → ℤ) (T : ℕ → Bool) (Y g : ℕ → ℤ) (d : ℕ) → AreMutual n a → IsClosed n a T → 0 < d → pos 0 <ℤ sum_inside n T g →
    ((i : ℕ) → i < n → T i ≡ true → (link_flow n a Y i +ℤ pos d *ℤ g i) ≤ℤ pos 0) → ⊥
carried_gain n a T Y g d both closed some carries loses =
    let less = sum_inside_at_most n T (λ i. link_flow n a Y i +ℤ pos d *ℤ g i) (λ i. pos 0) loses in
    let split = sum_inside-add n T (link_flow n a Y) (λ i. pos d *ℤ g i) in
    let flows = times n in
    clash _ _ _ (pos 0) (pos 0) _ less split (link_flows_cancel n a T Y both closed) flows (sum_inside-zero n T (λ i. pos 0) (λ k h. refl))
  where
    times_cell : (s : Bool) (x y : ℤ) → pos d *ℤ x +ℤ cond s (pos d *ℤ y) (pos 0) ≡ pos d *ℤ (x +ℤ cond s y (pos 0))
    times_cell true x y = sym (mul_add (pos d) x y)
    times_cell false x y = sym (mul_add (pos d) x (pos 0) ∙ rw (*ℤ-zero (pos d)) refl)

    times : (k : ℕ) → sum_below k (λ i. cond (T i) (pos d *ℤ g i) (pos 0)) ≡ pos d *ℤ sum_below k (λ i. cond (T i) (g i) (pos 0))
    times zero = sym (*ℤ-zero (pos d))
    times (suc k) = rw (times k) (times_cell (T k) (sum_below k (λ i. cond (T i) (g i) (pos 0))) (g k))

    clash : (x l y z s o : ℤ) → x ≤ℤ o → x ≡ l +ℤ y → l ≡ pos 0 → y ≡ pos d *ℤ sum_inside n T g → o ≡ pos 0 → ⊥
    clash x l y z s o h e f k u = omega (arith, ints, cancel_le d (sum_inside n T g) (pos 0) some (rw (*ℤ-zero (pos d)) (omega (arith, ints))))
