-- The sums of stored water over the cells of a problem.
use Rattle.gentle_budget.proofs.Common.{◌≡◌, ℕ, ℤ, ◌+◌, ◌<◌, ◌≤◌, ◌+ℤ◌, ◌≤ℤ◌, pos, Bool, true, false, List, drop, get_or, length, map, refl, sym, ap, ◌∙◌, arith, ◌&&◌, Entries, no_entries, Dir}
use Rattle.gentle_budget.proofs.Common.{TermPair, IsSum, capped_term, is_small, no_pair, part, plus_pair, term_limit, drop_all}
use Rattle.std.specs.{Int.int_min, Int.Signed.lt_z, List.filter}
use Rattle.std.proofs.{lemmas.Int.clamps, lemmas.Int.ints, lemmas.Bool.and_parts}
use Rattle.budget_bounds.proofs.Caps.{filter_all, next_part_capped, nothing_more}
unfoldable use Rattle.budget_bounds.specs.{parts}

-- The sum s and the parts of the cells from index i on are those of all cells.
pub record IsSumTo (dir : Dir) (f : Entries → TermPair) (p : List Entries) (i : ℕ) (s : TermPair) : Type 0 where
  pub sum : IsSum s
  pub rest : capped_term (plus_pair s (parts dir (map f (filter (λ x. true) (drop i p))))) ≡ capped_term (parts dir (map f p))

from_none : (x : TermPair) → capped_term (plus_pair no_pair x) ≡ capped_term x
from_none x =
    let low : pos 0 +ℤ x.lo ≡ x.lo = omega (arith, ints) in
    let high : pos 0 +ℤ x.hi ≡ x.hi = omega (arith, ints) in
    (λ i. capped_term (record { lo = low i; hi = high i }))

pub no_sum : IsSum no_pair
no_sum = record { lo_above = omega (arith, ints); lo_below = omega (arith, ints); hi_above = omega (arith, ints); hi_below = omega (arith, ints) }

pub sum_starts : (dir : Dir) (f : Entries → TermPair) (p : List Entries) → IsSumTo dir f p 0 no_pair
sum_starts dir f p = record {
  sum = no_sum;
  rest = from_none (parts dir (map f (filter (λ x. true) p))) ∙ ap (λ xs. capped_term (parts dir (map f xs))) (filter_all p);
}

pub sum_goes_on : (dir : Dir) (f : Entries → TermPair) (p : List Entries) (i : ℕ) (x : Entries) (s next : TermPair) → i < length p → x ≡ get_or p i no_entries →
    next ≡ capped_term (plus_pair s (part dir (f x))) → IsSum next → IsSumTo dir f p i s → IsSumTo dir f p (i + 1) next
sum_goes_on dir f p i x s next lt is more sum h = record {
  sum = sum;
  rest = next_part_capped dir (λ y. true) f p i no_entries x s next (capped_term (parts dir (map f p))) lt is more h.rest;
}

pub sum_ends : (dir : Dir) (f : Entries → TermPair) (p : List Entries) (i : ℕ) (s : TermPair) → length p ≤ i → IsSumTo dir f p i s → s ≡ capped_term (parts dir (map f p))
sum_ends dir f p i s over h =
    sym (nothing_more dir s h.sum) ∙ ap (λ xs. capped_term (plus_pair s (parts dir (map f (filter (λ x. true) xs))))) (sym (drop_all i p over)) ∙ h.rest

-- A sum that stops at the limit is below it where the whole sum is, and is the whole sum there.
stops : (a : ℤ) (s t : Bool) → lt_z (int_min a term_limit) term_limit ≡ s → lt_z a term_limit ≡ t → s ≡ t
stops a true true e f = refl
stops a true false e f = absurd (omega (arith, ints, clamps))
stops a false true e f = absurd (omega (arith, ints, clamps))
stops a false false e f = refl

pub small_capped : (x : TermPair) → is_small (capped_term x) ≡ is_small x
small_capped x = (λ i. stops x.lo (lt_z (int_min x.lo term_limit) term_limit) (lt_z x.lo term_limit) refl refl i
    && stops x.hi (lt_z (int_min x.hi term_limit) term_limit) (lt_z x.hi term_limit) refl refl i)

pub capped_small : (x : TermPair) → is_small x ≡ true → capped_term x ≡ x
capped_small x e =
    let (a, b) = and_parts (lt_z x.lo term_limit) (lt_z x.hi term_limit) e in
    let low : int_min x.lo term_limit ≡ x.lo = omega (arith, ints, clamps) in
    let high : int_min x.hi term_limit ≡ x.hi = omega (arith, ints, clamps) in
    (λ i. record { lo = low i; hi = high i })
