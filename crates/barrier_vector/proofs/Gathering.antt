-- Totals by label, one cell after another.
use Rattle.barrier_vector.proofs.Common.{◌≡◌, ℕ, zero, suc, ◌+◌, ◌*◌, ◌^◌, ◌<◌, ◌≤◌, ◌⊎◌, inl, inr, refl, sym, ◌∙◌, ap, subst, arith, max, List, Option, None, Some, Bool, true, false, cond}
use Rattle.barrier_vector.proofs.Common.{slice_index, ℤ, pos, negsuc, unsigned_abs, ◌+ℤ◌, ◌*ℤ◌, ◌≤ℤ◌, ◌<ℤ◌, add-one, div-add-mod', mod-lt, length, All, Contains, min, set, get_or-set_same}
use Rattle.barrier_vector.proofs.Common.{get_or-set_other, int_div_euclid, int_rem_euclid, cases_eq, cases_lt, eq-eqb, ne_eqb, ints, IsMagnitudeAtMost, sum_inside, mark_at, is_label, has_label}
use Rattle.barrier_vector.proofs.Common.{flow_sum, sum_at, longest_at, greatest_inside, Total, ceil_over, path_limit, ContinuesTo, get_or_default, Entries}

-- the test of a label tells
pub label_true : (o : Option ℕ) (m : ℕ) → o ≡ Some m → is_label o m ≡ true
label_true o m e = rw e (eq-eqb m m refl)

pub label_is : (o : Option ℕ) (m : ℕ) → is_label o m ≡ true → o ≡ Some m
label_is None m e = absurd cc
label_is (Some k) m e = elim (cases_eq k m) [ inl is ↦ ap Some is | inr n ↦ let f = ne_eqb k m n in absurd (cc (e, f)) ]

-- the greatest of the numbers of the cells that pass a test
pub greatest_covers : (n : ℕ) (t : ℕ → Bool) (f : ℕ → ℕ) (k : ℕ) → k < n → t k ≡ true → f k ≤ greatest_inside n t f
greatest_covers zero t f k h on = absurd (omega arith)
greatest_covers (suc n) t f k h on =
    elim (cases_eq k n) [
      | inl e ↦ let at = rw e at on in rw (e, at) (omega arith)
      | inr other ↦ let le = greatest_covers n t f k (omega arith) on in omega (arith, le)
    ]

greatest_reached : (n : ℕ) (t : ℕ → Bool) (f : ℕ → ℕ) → (greatest_inside n t f ≡ 0) ⊎ ((k : ℕ) × (k < n) × (t k ≡ true) × (f k ≡ greatest_inside n t f))
greatest_reached zero t f = inl refl
greatest_reached (suc n) t f = last (greatest_inside n t f) (t n) refl (greatest_reached n t f)
  where
    last : (g : ℕ) (b : Bool) → t n ≡ b → (g ≡ 0) ⊎ ((k : ℕ) × (k < n) × (t k ≡ true) × (f k ≡ g)) → (max g (cond b (f n) 0) ≡ 0) ⊎
        ((k : ℕ) × (k < suc n) × (t k ≡ true) × (f k ≡ max g (cond b (f n) 0)))
    last g false off (inl none) = inl (omega (arith, none))
    last g false off (inr (k, h, on, is)) = inr (k, omega (arith, h), on, omega (arith, is))
    last g true on (inl none) = inr (n, omega arith, on, omega (arith, none))
    last g true on (inr (k, h, k_on, is)) = elim (cases_lt (f n) g) [ inl less ↦ inr (k, omega (arith, h), k_on, omega (arith, is, less)) | inr more ↦ inr (n, omega arith, on, omega (arith, more)) ]

-- a cell that has it, where some cell passes
pub greatest_of : (n : ℕ) (t : ℕ → Bool) (f : ℕ → ℕ) (c : ℕ) → c < n → t c ≡ true → (k : ℕ) × (k < n) × (t k ≡ true) × (f k ≡ greatest_inside n t f)
greatest_of n t f c h on = elim (greatest_reached n t f) [ inl none ↦ (c, h, on, omega (arith, none, greatest_covers n t f c h on)) | inr found ↦ found ]

pub greatest_within : (n : ℕ) (t : ℕ → Bool) (f : ℕ → ℕ) (b : ℕ) → ((k : ℕ) → k < n → f k ≤ b) → greatest_inside n t f ≤ b
greatest_within n t f b each = elim (greatest_reached n t f) [ inl none ↦ omega (arith, none) | inr (k, h, on, is) ↦ let le = each k h in omega (arith, le, is) ]

-- one cell more, over what the code holds before and after
module _ (labels : List (Option ℕ)) (old s0 s1 new : List Total) (i m : ℕ) (e0 : s0 ≡ old) (ef : new ≡ s1) where
  pub sum_more : (f : ℕ → ℤ) (q : ℤ) → q ≡ f i → sum_at old m ≡ sum_inside i (has_label labels m) f → sum_at s1 m ≡
      sum_at s0 m +ℤ cond (is_label (mark_at labels i) m) q (pos 0) → sum_at new m ≡ sum_inside (i + 1) (has_label labels m) f
  sum_more f q is h t = let t' = rw (e0, is) at t in rw (ef, add-one i) (t' ∙ ap (λ (z : ℤ). z +ℤ cond (is_label (mark_at labels i) m) (f i) (pos 0)) h)

  pub longest_more : (f : ℕ → ℕ) → longest_at old m ≡ greatest_inside i (has_label labels m) f → longest_at s1 m ≡
      max (longest_at s0 m) (cond (is_label (mark_at labels i) m) (f i) 0) → longest_at new m ≡ greatest_inside (i + 1) (has_label labels m) f
  longest_more f h t = let t' = rw e0 at t in rw (ef, add-one i) (t' ∙ ap (λ (n : ℕ). max n (cond (is_label (mark_at labels i) m) (f i) 0)) h)

  pub within_more : (b : Bool) (q : ℤ) → IsMagnitudeAtMost q (2 ^ 125) → IsMagnitudeAtMost (sum_at old m) (i * 2 ^ 125) → sum_at s1 m ≡
      sum_at s0 m +ℤ cond b q (pos 0) → IsMagnitudeAtMost (sum_at new m) ((i + 1) * 2 ^ 125)
  within_more b q w v t = let t' = rw e0 at t in rw (ef, t') (add b (sum_at old m) v)
    where
      add : (b : Bool) (z : ℤ) → IsMagnitudeAtMost z (i * 2 ^ 125) → IsMagnitudeAtMost (z +ℤ cond b q (pos 0)) ((i + 1) * 2 ^ 125)
      add true z v = record { above = omega (arith, ints, w, v); below = omega (arith, ints, w, v) }
      add false z v = record { above = omega (arith, ints, v); below = omega (arith, ints, v) }

  pub sum_within : i < 2 ^ 32 → IsMagnitudeAtMost (sum_at old m) (i * 2 ^ 125) → IsMagnitudeAtMost (sum_at s0 m) (2 ^ 157)
  sum_within small v = rw e0 (wider (sum_at old m) v)
    where
      wider : (z : ℤ) → IsMagnitudeAtMost z (i * 2 ^ 125) → IsMagnitudeAtMost z (2 ^ 157)
      wider z v = let le : i * 2 ^ 125 ≤ 2 ^ 157 = omega arith in record { above = omega (arith, ints, v, le); below = omega (arith, ints, v, le) }

-- the two words of a sum
pub euclid : (z : ℤ) (n : ℕ) → 0 < n → int_div_euclid z (pos n) *ℤ pos n +ℤ int_rem_euclid z (pos n) ≡ z
euclid (pos a) n some = let e = div-add-mod' a n in omega (arith, ints, e)
euclid (negsuc a) n some = let e = div-add-mod' a n in let h = mod-lt a some in omega (arith, ints, e, h)

rest_whole : (z : ℤ) (n : ℕ) → pos (unsigned_abs (int_rem_euclid z (pos n))) ≡ int_rem_euclid z (pos n)
rest_whole (pos a) n = refl
rest_whole (negsuc a) n = refl

-- a flow more: what passes 2 ^ 64 goes to the higher word
pub two_words : (s : Total) (flow rest q r : ℤ) → rest ≡ pos s.low +ℤ flow → q ≡ int_div_euclid rest (pos (2 ^ 64)) → r ≡ int_rem_euclid rest (pos (2 ^ 64)) →
    (s.high +ℤ q) *ℤ pos (2 ^ 64) +ℤ pos (unsigned_abs r) ≡ flow_sum s +ℤ flow
two_words s flow rest q r is eq er = rw (eq, er) (omega (arith, ints, euclid rest (2 ^ 64) (omega arith), rest_whole rest (2 ^ 64), is))

pub not_positive : (b : Bool) (z : ℤ) → (pos 0 <ℤ z → b ≡ true) → b ≡ false → z ≤ℤ pos 0
not_positive b z only e = grind (arith, zero, negsuc)

-- The paths of a frontier's cells, one after another, from those of the level before.
-- where in a list a number stands
pub place_of : (xs : List ℕ) (x : ℕ) → Contains xs x → (j : ℕ) × (j < length xs) × (slice_index xs j ≡ x)
place_of xs x has = (has.0, has.1, get_or_default xs has.0 0 x has.1 ∙ has.2)

-- the first i cells of the frontier have their paths, and the others what they had
pub record Extended (p : List Entries) (q : ℕ) (levels : List (Option ℕ)) (level : ℕ) (front start paths : List ℕ) (i : ℕ) : Type 0 where
  pub others : (k : ℕ) → ((j : ℕ) → j < i → slice_index front j ≡ k → ⊥) → slice_index paths k ≡ slice_index start k
  pub done : (j : ℕ) → j < i → ContinuesTo p q levels level start (slice_index front j) (slice_index paths (slice_index front j))

module _ (p : List Entries) (q : ℕ) (levels : List (Option ℕ)) (level : ℕ) (front start : List ℕ)
    (past : All (λ c. mark_at levels c ≡ Some level → ⊥) front)
  where
    -- no path that a cell goes on along has changed
    from_start : (paths : List ℕ) (i c s : ℕ) → i < length front → Extended p q levels level front start paths i → ContinuesTo p q levels level paths c s → ContinuesTo p q levels level start c s
    from_start paths i c s i_in so_far (inr none) = inr none
    from_start paths i c s i_in so_far (inl (x, near, is)) =
        inl (
          x,
          near,
          is ∙ ap (λ (r : ℕ). min (ceil_over q x.lo + r) path_limit)
              (so_far.others x.cell (λ j h e. past j 0 (omega arith) (subst (λ (z : ℕ). mark_at levels z ≡ Some level) (sym e) near.level_is))),
        )

    pub extended_more : (paths : List ℕ) (i s : ℕ) → i < length front → slice_index front i < length paths → Extended p q levels level front start paths i →
        ContinuesTo p q levels level paths (slice_index front i) s → Extended p q levels level front start (set paths (slice_index front i) s) (i + 1)
    extended_more paths i s i_in c_in so_far goes = record {
      others = λ k none. get_or-set_other paths (slice_index front i) k s 0 (λ e. none i (omega arith) (sym e)) ∙ so_far.others k (λ j h e. none j (omega arith) e);
      done = λ j h.
          elim (cases_eq (slice_index front j) (slice_index front i)) [
            | inl e ↦ subst (λ (z : ℕ). ContinuesTo p q levels level start z (slice_index (set paths (slice_index front i) s) z)) (sym e)
                (subst (λ (v : ℕ). ContinuesTo p q levels level start (slice_index front i) v) (sym (get_or-set_same paths (slice_index front i) s 0 c_in))
                (from_start paths i (slice_index front i) s i_in so_far goes))
            | inr n ↦ subst (λ (v : ℕ). ContinuesTo p q levels level start (slice_index front j) v)
                (sym (get_or-set_other paths (slice_index front i) (slice_index front j) s 0 n)) (so_far.done j (before j h n))
          ];
    }
      where
        before : (j : ℕ) → j < i + 1 → (slice_index front j ≡ slice_index front i → ⊥) → j < i
        before j h n = elim (cases_lt j i) [ inl less ↦ less | inr more ↦ let at : j ≡ i = omega arith in absurd (n (ap (λ (z : ℕ). slice_index front z) at)) ]

    pub these_have : (paths : List ℕ) → Extended p q levels level front start paths (length front) → (c : ℕ) → Contains front c → ContinuesTo p q levels level start c (slice_index paths c)
    these_have paths e c has = let (j, h, is) = place_of front c has in subst (λ (z : ℕ). ContinuesTo p q levels level start z (slice_index paths z)) is (e.done j h)
