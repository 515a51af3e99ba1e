-- One link and one anchor: a head falls by at most what pays for the needs of all cells.
use Rattle.barrier_vector.proofs.Common.{◌≡◌, ℕ, ◌*◌, ◌<◌, ◌≤◌, sym, subst, arith, ℤ, pos, ◌+ℤ◌, ◌-ℤ◌, ◌*ℤ◌, ◌≤ℤ◌, ◌<ℤ◌, List, length, sum_by, Contains, Bool, true, false, cond, ◌+◌, ap, negsuc, zero}
use Rattle.barrier_vector.proofs.Common.{suc, ◌⊎◌, inl, inr, refl, ◌∙◌, AllZip, lt_z, false_is_lt, le_out, take_all, ints, by_lt_z, Link, Entries, entries_at, no_entries, total, mul_nonneg, mul_mono}
use Rattle.barrier_vector.proofs.Common.{sum_inside, IsCarried, le_trans_z, AllZip-at, AllZip-length, WholeCell, whole_at, whole_link, no_whole, whole_balance, CellWithin, LinkWithin, IsMutual}
use Rattle.barrier_vector.proofs.Common.{cut_link, mul-le-mul_right, le_of_mul-le-mul_left, ceil_over, mul_mono_right, cases_lt, false≢true, Low, cell_within, carried_not_dry}
use Rattle.cell_balance.proofs.Mutual.{no_whole_link}
use Rattle.barrier_vector.proofs.FloorsEnter.{limited_sum, AllZip-has, term-le-total, lies_below, cut_enters, links_give, enters}
use Rattle.barrier_vector.proofs.Marking.{IsMarkBelow, cell_dry}

-- How far a head can lie beyond its neighbour's over a branch that carries at most so much.
pub ceil_enough : (q lo : ℕ) → 0 < lo → q ≤ ceil_over q lo * lo
ceil_enough q lo h = omega arith

-- a branch of c over m, at least lo, carries at most q: the heads differ by at most a drop that pays for q
pub step_bound : (lo m n c drop q : ℕ) (u d : ℤ) → 0 < lo → 0 < m → lo * m ≤ c → pos 0 ≤ℤ u → u ≤ℤ d → (pos c *ℤ d) ≤ℤ (pos q *ℤ pos (m * n)) → q ≤ drop * lo → u ≤ℤ pos (drop * n)
step_bound lo m n c drop q (negsuc u) d l k h some below carry enough = omega (arith, ints)
step_bound lo m n c drop q (pos u) d l some_m h some below carry enough =
    let a : lo * m * u ≤ c * u = mul-le-mul_right u h in
    let b = mul_mono c (pos u) d below in
    let e = mul_mono_right (m * n) (pos q) (pos (drop * lo)) (omega (arith, ints)) in
    at_most (omega (arith, ints))
  where
    at_most : lo * m * u ≤ drop * lo * (m * n) → pos u ≤ℤ pos (drop * n)
    at_most h =
        let some_lo : 1 * m ≤ lo * m = mul-le-mul_right m l in
        let h' : lo * m * u ≤ lo * m * (drop * n) = omega arith in
        let r : u ≤ drop * n = le_of_mul-le-mul_left h' (omega arith) in
        omega (arith, ints)

pub difference_not_negative : (a b : ℤ) → a <ℤ b → pos 0 ≤ℤ (b -ℤ a)
difference_not_negative a b h = omega (arith, ints)

pub fallen : (t : ℤ) (k : ℕ) (y : ℤ) → (t -ℤ y) ≤ℤ pos k → (t -ℤ pos k) ≤ℤ y
fallen t k y h = omega (arith, ints)

pub joined_low : (t y : ℤ) (n drop rest s : ℕ) → s ≡ drop + rest → ((t -ℤ pos (rest * n)) -ℤ pos (drop * n)) ≤ℤ y → (t -ℤ pos (s * n)) ≤ℤ y
joined_low t y n drop rest s e h = omega (arith, ints, ap (λ (k : ℕ). k * n) e, h)

test_false : (a b : ℤ) → b ≤ℤ a → lt_z a b ≡ false
test_false a b h = sym (false_is_lt a b (le_out b a h))

-- Y are heads; besides its links cell c gets `rest c`, which below the base is at least what its anchor gives, less what it needs
module _ (m n : ℕ) (some_m : 0 < m) (p : List Entries) (w : List WholeCell) (within : AllZip (CellWithin m n (length p)) p w) (both : IsMutual w)
    (Y rest : ℕ → ℤ) (need anchor : Entries → ℕ) (base : ℤ)
    (solved : (c : ℕ) → c < length w → total (whole_link Y (Y c)) (whole_at w c).links +ℤ rest c ≡ pos 0)
    (gives : (c : ℕ) → c < length p → Y c <ℤ base → (pos (anchor (entries_at p c) * m) *ℤ (base -ℤ Y c)) ≤ℤ (rest c +ℤ pos (need (entries_at p c)) *ℤ pos (m * n)))
  where
    same_length : length p ≡ length w
    same_length = AllZip-length (CellWithin m n (length p)) p w within

    abbrev needed : ℕ → ℤ
    needed c = pos (need (entries_at p c)) *ℤ pos (m * n)

    gets : (t : ℤ) → t ≤ℤ base → (c : ℕ) → c < length w → Y c <ℤ t → pos 0 ≤ℤ (rest c +ℤ needed c)
    gets t low c i h =
        let k : Y c <ℤ base = omega (arith, ints, low, h) in
        le_trans_z _ _ _ (mul_nonneg (pos (anchor (entries_at p c) * m)) (base -ℤ Y c) (omega (arith, ints)) (difference_not_negative _ _ k)) (gives c (omega (arith, same_length, i)) k)

    needs : (inside : ℕ → Bool) → sum_inside (length w) inside needed ≤ℤ (pos (sum_by need p) *ℤ pos (m * n))
    needs inside =
        let sum = limited_sum need p (λ c. cond (inside c) (needed c) (pos 0)) (m * n) (λ c i. cell c (inside c)) (length p) (omega arith) in
        rw (take_all (length p) p (omega arith), same_length) at sum
      where
        cell : (c : ℕ) (b : Bool) → cond b (needed c) (pos 0) ≤ℤ needed c
        cell c true = omega (arith, ints)
        cell c false = mul_nonneg (pos (need (entries_at p c))) (pos (m * n)) (omega (arith, ints)) (omega (arith, ints))

    -- over a link a head falls by at most the drop that pays for the needs
    pub falls_over : (t : ℤ) → t ≤ℤ base → (drop c : ℕ) → c < length p → (x : Link) → Contains (entries_at p c).links x → sum_by need p ≤ drop * x.lo → t ≤ℤ Y x.cell → (t -ℤ pos (drop * n)) ≤ℤ Y c
    falls_over t low drop c i x has enough far =
        by_lt_z (Y c) t
        (λ h.
        let j : c < length w = omega (arith, same_length, i) in
        let (z, has_z, exact) = AllZip-has (LinkWithin m n (length p)) (entries_at p c).links (whole_at w c).links x no_whole_link
        (AllZip-at (CellWithin m n (length p)) p w c no_entries no_whole within i).links has in
        let one = term-le-total (λ y. Unit {0}) (cut_link (lies_below Y t) Y (Y c)) (whole_at w c).links (λ y u. cut_enters Y t (Y c) h y) (λ k d l. tt) z has_z in
        let limit = at_most _ _ _ _ _ one (enters w both Y rest needed t solved (gets t low) c j h) (gets t low c j h) (needs (lies_below Y t)) in
        let above : t ≤ℤ Y z.cell = subst (λ (k : ℕ). t ≤ℤ Y k) exact.same far in
        let carry = rw (test_false (Y z.cell) t above) at limit in
        fallen t (drop * n) (Y c) (step_bound x.lo m n z.c drop (sum_by need p) (t -ℤ Y c) (Y z.cell -ℤ Y c) exact.conducts some_m exact.c.lower
        (difference_not_negative _ _ h) (omega (arith, ints, above)) carry enough))
        (λ h. omega (arith, ints, h))
      where
        at_most : (a s r f q : ℤ) → a ≤ℤ s → (s +ℤ r) ≤ℤ f → pos 0 ≤ℤ r → f ≤ℤ q → a ≤ℤ q
        at_most a s r f q h k l g = omega (arith, ints)

    -- at an anchor a head lies below the base by at most the drop that pays for the needs
    pub falls_at : (drop c : ℕ) → c < length p → 0 < anchor (entries_at p c) → sum_by need p ≤ drop * anchor (entries_at p c) → (base -ℤ pos (drop * n)) ≤ℤ Y c
    falls_at drop c i some enough =
        by_lt_z (Y c) base
        (λ h.
        let j : c < length w = omega (arith, same_length, i) in
        let same : base ≤ℤ base = omega (arith, ints) in
        let carry = at_most _ _ _ _ _ (gives c i h) (enters w both Y rest needed base solved (gets base same) c j h)
        (links_give w both Y rest needed base solved (gets base same) c h) (needs (lies_below Y base)) in
        fallen base (drop * n) (Y c) (step_bound (anchor (entries_at p c)) m n (anchor (entries_at p c) * m) drop (sum_by need p) (base -ℤ Y c)
        (base -ℤ Y c) some some_m (omega arith) (difference_not_negative _ _ h) (omega (arith, ints)) carry enough))
        (λ h. omega (arith, ints, h))
      where
        at_most : (a s r f q : ℤ) → a ≤ℤ r → (s +ℤ r) ≤ℤ f → pos 0 ≤ℤ s → f ≤ℤ q → a ≤ℤ q
        at_most a s r f q h k l g = omega (arith, ints)

-- Some cell of a carried component lies at the base or above.
-- the cells of a set below n all lie at most at t, or one lies at least there
all_or_some : (n : ℕ) (inside : ℕ → Bool) (Y : ℕ → ℤ) (t : ℤ) → ((k : ℕ) → k < n → inside k ≡ true → Y k ≤ℤ t) ⊎ ((k : ℕ) × (k < n) × (inside k ≡ true) × (t ≤ℤ Y k))
all_or_some zero inside Y t = inl (λ k h e. absurd (omega arith))
all_or_some (suc n) inside Y t =
    elim (all_or_some n inside Y t) [
      | inr (k, h, e, over) ↦ inr (k, omega arith, e, over)
      | inl all ↦ by_lt_z t (Y n) (λ h. last all (omega (arith, ints, h)) (inside n) refl) (λ h. inl (λ k i e. one_more all h k i e))
    ]
  where
    one_more : ((k : ℕ) → k < n → inside k ≡ true → Y k ≤ℤ t) → Y n ≤ℤ t → (k : ℕ) → k < suc n → inside k ≡ true → Y k ≤ℤ t
    one_more all h k i e =
        elim (cases_lt k n) [
          | inl less ↦ all k less e
          | inr past ↦ let at : k ≡ n = omega arith in subst (λ (z : ℕ). Y z ≤ℤ t) (sym at) h
        ]

    last : ((k : ℕ) → k < n → inside k ≡ true → Y k ≤ℤ t) → t ≤ℤ Y n → (b : Bool) → inside n ≡ b → ((k : ℕ) → k < suc n → inside k ≡ true → Y k ≤ℤ t) ⊎
        ((k : ℕ) × (k < suc n) × (inside k ≡ true) × (t ≤ℤ Y k))
    last all h true is = inr (n, omega arith, is, h)
    last all h false is = inl (λ k i e. elim (cases_lt k n) [ inl less ↦ all k less e | inr past ↦ let at : k ≡ n = omega arith in absurd (false≢true (sym is ∙ ap inside (sym at) ∙ e)) ])

module _ (m n : ℕ) (some_m : 0 < m) (some_n : 0 < n) (p : List Entries) (w : List WholeCell) (Y : ℕ → ℤ)
    (within : AllZip (CellWithin m n (length p)) p w) (both : IsMutual w)
    (solves : (c : ℕ) → c < length w → whole_balance (whole_at w c) (Y c) Y ≡ pos 0)
    (b : ℤ) (base : (v : ℤ) → IsMarkBelow Low p (length p) v → b ≤ℤ v)
  where
    pub somewhere_above : (c : ℕ) (carried : IsCarried p c) → (k : ℕ) × (k < length p) × (carried.inside k ≡ true) × ((b *ℤ pos n) ≤ℤ Y k)
    somewhere_above c carried =
        elim (all_or_some (length p) carried.inside Y (b *ℤ pos n)) [
          | inr found ↦ found
          | inl all ↦ absurd (carried_not_dry m n some_m some_n p w Y within both solves c carried (λ k. b *ℤ pos n) (λ k j e.
              (all k j e, cell_dry m n (length p) b (entries_at p k) (whole_at w k) (cell_within m n p w within k j) (λ v mark. base v (k, j, mark)))))
        ]
