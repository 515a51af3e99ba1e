-- Sums of parts, and sums that stand still at the limit.
use Rattle.budget_bounds.proofs.Common.{◌≡◌, ℕ, ◌+◌, ◌<◌, ◌≤◌, Bool, true, false, cond, refl, sym, ap, ◌∙◌, arith, List, [], ◌∷◌, length, get_or, drop, map, add-one, drop-cons, ℤ, pos, neg_ℤ, ◌+ℤ◌}
use Rattle.budget_bounds.proofs.Common.{◌≤ℤ◌, filter, ints, clamps, Dir, In, Out, sum_below, TermPair, part, parts, term_limit, IsSum, capped_term, plus_pair, all_terms, budget_of, term_of, term_pair}
use Rattle.budget_bounds.proofs.Common.{terms_of, sum_of, term_or_refusal, tested_terms, tested_budget, singles, drop_all, Term, Entries, entries_at}
use Rattle.std.specs.{Int.int_min, Int.int_max, Int.Signed.lt_z}

pub filter_all : {X : Type 0} (xs : List X) → filter (λ x. true) xs ≡ xs
filter_all [] = refl
filter_all (x ∷ xs) = rw (filter_all xs) refl

-- what is none the less counted once the sum stands still changes nothing
cap : (limit s x r : ℤ) → pos 0 ≤ℤ r → int_min (int_min (s +ℤ x) limit +ℤ r) limit ≡ int_min (s +ℤ (x +ℤ r)) limit
cap limit s x r h = omega (arith, ints, clamps)

max_none : (a : ℤ) → pos 0 ≤ℤ int_max a (pos 0)
max_none a = omega (arith, ints, clamps)

plus_none : (a b : ℤ) → pos 0 ≤ℤ a → pos 0 ≤ℤ b → pos 0 ≤ℤ (a +ℤ b)
plus_none a b h k = omega (arith, ints)

none : pos 0 ≤ℤ pos 0
none = omega (arith, ints)

pub part_lo : (dir : Dir) (x : TermPair) → pos 0 ≤ℤ (part dir x).lo
part_lo In x = max_none x.lo
part_lo Out x = max_none (neg_ℤ x.hi)

pub part_hi : (dir : Dir) (x : TermPair) → pos 0 ≤ℤ (part dir x).hi
part_hi In x = max_none x.hi
part_hi Out x = max_none (neg_ℤ x.lo)

pub parts_lo : (dir : Dir) (xs : List TermPair) → pos 0 ≤ℤ (parts dir xs).lo
unfolding parts
parts_lo dir [] = none
parts_lo dir (x ∷ xs) = plus_none _ _ (part_lo dir x) (parts_lo dir xs)

pub parts_hi : (dir : Dir) (xs : List TermPair) → pos 0 ≤ℤ (parts dir xs).hi
unfolding parts
parts_hi dir [] = none
parts_hi dir (x ∷ xs) = plus_none _ _ (part_hi dir x) (parts_hi dir xs)

-- two capped additions are one
pub capped_twice : (s a b : TermPair) → pos 0 ≤ℤ b.lo → pos 0 ≤ℤ b.hi → capped_term (plus_pair (capped_term (plus_pair s a)) b) ≡ capped_term (plus_pair s (plus_pair a b))
capped_twice s a b h k = rw (cap term_limit s.lo a.lo b.lo h, cap term_limit s.hi a.hi b.hi k) refl

-- nothing added to a sum
cap_none : (limit s : ℤ) → s ≤ℤ limit → int_min (s +ℤ pos 0) limit ≡ s
cap_none limit s h = omega (arith, ints, clamps)

pub nothing_more : (dir : Dir) (s : TermPair) → IsSum s → capped_term (plus_pair s (parts dir [])) ≡ s
unfolding parts
nothing_more dir s h = rw (cap_none term_limit s.lo h.lo_below, cap_none term_limit s.hi h.hi_below) refl

-- the entries from one on, where it is counted, and where it isn't
counted : {X : Type 0} (dir : Dir) (of : X → Bool) (f : X → TermPair) (x : X) (xs : List X) → of x ≡ true → parts dir (map f (filter of (x ∷ xs))) ≡
    plus_pair (part dir (f x)) (parts dir (map f (filter of xs)))
unfolding parts
counted dir of f x xs h = rw h refl

passed : {X : Type 0} (dir : Dir) (of : X → Bool) (f : X → TermPair) (x : X) (xs : List X) → of x ≡ false → parts dir (map f (filter of (x ∷ xs))) ≡ parts dir (map f (filter of xs))
passed dir of f x xs h = rw h refl

from : {X : Type 0} (xs : List X) (i : ℕ) (d x : X) → i < length xs → x ≡ get_or xs i d → drop i xs ≡ x ∷ drop (i + 1) xs
from xs i d x lt e = rw (e, add-one, drop-cons xs i d) refl

counts_or_not : {X : Type 0} (dir : Dir) (of : X → Bool) (f : X → TermPair) (x : X) (xs : List X) (s : TermPair) (b : Bool) → of x ≡ b →
    capped_term (plus_pair (cond b (capped_term (plus_pair s (part dir (f x)))) s) (parts dir (map f (filter of xs)))) ≡
    capped_term (plus_pair s (parts dir (map f (filter of (x ∷ xs)))))
counts_or_not dir of f x xs s true h = capped_twice s (part dir (f x)) (parts dir (map f (filter of xs))) (parts_lo dir _) (parts_hi dir _) ∙ ap
    (λ (z : TermPair). capped_term (plus_pair s z)) (sym (counted dir of f x xs h))
counts_or_not dir of f x xs s false h = ap (λ (z : TermPair). capped_term (plus_pair s z)) (sym (passed dir of f x xs h))

-- one entry of a loop
pub next_part_capped : {X : Type 0} (dir : Dir) (of : X → Bool) (f : X → TermPair) (xs : List X) (i : ℕ) (d x : X) (s next whole : TermPair) → i < length xs →
    x ≡ get_or xs i d → next ≡ cond (of x) (capped_term (plus_pair s (part dir (f x)))) s →
    capped_term (plus_pair s (parts dir (map f (filter of (drop i xs))))) ≡ whole →
    capped_term (plus_pair next (parts dir (map f (filter of (drop (i + 1) xs))))) ≡ whole
next_part_capped {X = X} dir of f xs i d x s next whole lt e is h =
    rw is (counts_or_not dir of f x (drop (i + 1) xs) s (of x) refl ∙ ap (λ (ys : List X). capped_term (plus_pair s (parts dir (map f (filter of ys))))) (sym (from xs i d x lt e)) ∙ h)

pub ends : {X : Type 0} (dir : Dir) (of : X → Bool) (f : X → TermPair) (xs : List X) (i : ℕ) (s whole : TermPair) → IsSum s → length xs ≤ i →
    capped_term (plus_pair s (parts dir (map f (filter of (drop i xs))))) ≡ whole → s ≡ whole
ends {X = X} dir of f xs i s whole sum over h =
    sym (nothing_more dir s sum) ∙ ap (λ (ys : List X). capped_term (plus_pair s (parts dir (map f (filter of ys))))) (sym (drop_all i xs over)) ∙ h

-- one cell of the loop over cells
cap_two : (limit a x : ℤ) → pos 0 ≤ℤ x → int_min (int_min a limit +ℤ x) limit ≡ int_min (a +ℤ x) limit
cap_two limit a x h = omega (arith, ints, clamps)

pub cell_more : (n : ℕ) (f : ℕ → TermPair) (s next : TermPair) → s ≡
    capped_term (record { lo = sum_below n (λ c. (f c).lo); hi = sum_below n (λ c. (f c).hi) }) → next ≡ capped_term (plus_pair s (f n)) → pos 0 ≤ℤ (f n).lo →
    pos 0 ≤ℤ (f n).hi → next ≡ capped_term (record { lo = sum_below (n + 1) (λ c. (f c).lo); hi = sum_below (n + 1) (λ c. (f c).hi) })
cell_more n f s next is more h k = more ∙ rw (is, add-one) (rw (cap_two term_limit (sum_below n (λ c. (f c).lo)) (f n).lo h, cap_two term_limit (sum_below n (λ c. (f c).hi)) (f n).hi k) refl)

-- Tests of sums that stop at the limit tell what tests of the whole sums do.
alike : (limit a : ℤ) (s t : Bool) → lt_z (int_min a limit) limit ≡ s → lt_z a limit ≡ t → s ≡ t
alike limit a true true e f = refl
alike limit a true false e f = absurd (omega (arith, ints, clamps))
alike limit a false true e f = absurd (omega (arith, ints, clamps))
alike limit a false false e f = refl

kept : (limit a : ℤ) (t : Bool) → lt_z a limit ≡ t → lt_z (int_min a limit) limit ≡ t
kept limit a t e = alike limit a (lt_z (int_min a limit) limit) t refl e

below : (limit a : ℤ) → lt_z a limit ≡ true → int_min a limit ≡ a
below limit a e = omega (arith, ints, clamps)

by_tests : (dir : Dir) (t : Term) (x : TermPair) (low high : Bool) → lt_z x.lo term_limit ≡ low → lt_z x.hi term_limit ≡ high → term_or_refusal dir t (capped_term x) ≡ term_or_refusal dir t x
unfolding term_or_refusal
by_tests dir t x true true e f = rw (below term_limit x.lo e, below term_limit x.hi f) refl
by_tests dir t x true false e f = rw (kept term_limit x.lo true e, kept term_limit x.hi false f, e, f) refl
by_tests dir t x false high e f = rw (kept term_limit x.lo false e, e) refl

tested_capped : (dir : Dir) (t : Term) (x : TermPair) → term_or_refusal dir t (capped_term x) ≡ term_or_refusal dir t x
tested_capped dir t x = by_tests dir t x (lt_z x.lo term_limit) (lt_z x.hi term_limit) refl refl

module _ (p : List Entries) (l u : ℕ → ℤ) (dir : Dir) (sums : List TermPair) (are : (t : Term) → sum_of sums t ≡ capped_term (term_pair p l u dir t)) where
  term_tested : (t : Term) → term_or_refusal dir t (sum_of sums t) ≡ term_of p l u dir t
  unfolding term_or_refusal term_of
  term_tested t = ap (term_or_refusal dir t) (are t) ∙ tested_capped dir t (term_pair p l u dir t)

  pub terms_tested : (ts : List Term) → tested_terms sums dir ts ≡ terms_of p l u dir ts
  unfolding tested_terms terms_of
  terms_tested [] = refl
  terms_tested (t ∷ ts) = rw (term_tested t, terms_tested ts) refl

pub budget_tested : (p : List Entries) (l u : ℕ → ℤ) (into out : List TermPair) → ((t : Term) → sum_of into t ≡ capped_term (term_pair p l u In t)) →
    ((t : Term) → sum_of out t ≡ capped_term (term_pair p l u Out t)) → tested_budget into out ≡ budget_of p l u
unfolding tested_budget budget_of
budget_tested p l u into out are_into are_out = rw (terms_tested p l u In into are_into all_terms, terms_tested p l u Out out are_out all_terms) refl

-- The sums of a term over the first cells.
module _ (p : List Entries) (l u : ℕ → ℤ) (dir : Dir) (t : Term) where
  -- the parts of cell c
  abbrev pub cell_parts : ℕ → TermPair
  cell_parts c = parts dir (singles t (entries_at p c) (l c) (u c))

  -- the sum over the first n cells, which stops at the limit
  abbrev pub sums_below : ℕ → TermPair
  sums_below n = capped_term (record { lo = sum_below n (λ c. (cell_parts c).lo); hi = sum_below n (λ c. (cell_parts c).hi) })

  pub one_more : (c : ℕ) (s next : TermPair) → s ≡ sums_below c → next ≡ capped_term (plus_pair s (cell_parts c)) → next ≡ sums_below (c + 1)
  one_more c s next sum more = cell_more c cell_parts s next sum more (parts_lo dir _) (parts_hi dir _)

  pub all_below : (n : ℕ) (x : TermPair) → n ≡ length p → x ≡ sums_below n → x ≡ capped_term (term_pair p l u dir t)
  unfolding term_pair
  all_below n x e sum = sum ∙ ap sums_below e
