-- The table of given heads, entry by entry.
use Rattle.model_types.proofs.Common.{◌≡◌, ℕ, ◌+◌, ◌<◌, inl, inr, Option, Some, None, List, [], ◌∷◌, ◌++◌, length, get_or, take, set, map, refl, sym, ap, ◌∙◌, arith, All, Bool, true, false, cond}
use Rattle.model_types.proofs.Common.{◌||◌, is_some, ◌==◌, replicate, reverse, min, range_with_len, flat_map, find, list_any, cases_eq, cond-true, cond-false, eq-eqb, ne_eqb, cases_lt, length-set}
use Rattle.model_types.proofs.Common.{get_or-set_other, length-replicate, get_or-replicate, get_or_read, take_more, flat_map_more, append_assoc, reverse-append, take_all, All-get_or}
use Rattle.model_types.proofs.Common.{length-map-range_with_len, get_or-map-range_with_len, fill_by_all, Period, FlowModel, cell_count, period_at, no_period, given_in, given_heads, no_number}
use Rattle.model_types.proofs.Common.{last_given}
use Rattle.model_types.specs.declared.entry.Given.{Given}
use Rattle.std.proofs.{lemmas.Grind.get_or-set_at, lemmas.List.Folds.list_any-append}
use Rattle.model_types.specs.declared.given_heads.GivenHeads.{GivenHeads}

-- The last entry that names a cell, list by list.
-- one more entry at the end
pub given_more : (xs : List Given) (x : Given) (c : ℕ) → given_in (xs ++ x ∷ []) c ≡ cond (x.cell.0 == c) (Some x) (given_in xs c)
unfolding given_in
given_more xs x c = ap (find (λ y. y.cell.0 == c)) (reverse-append xs (x ∷ []))

some_cons : {X : Type 0} (b : Bool) (x : X) (r : Option X) (c : Bool) → is_some r ≡ c → is_some (cond b (Some x) r) ≡ (b || c)
some_cons true x r c e = refl
some_cons false x r c e = e

-- a list names a cell where one of its entries does
some_any : {X : Type 0} (test : X → Bool) (xs : List X) → is_some (find test xs) ≡ list_any test xs
some_any test [] = refl
some_any test (x ∷ xs) = some_cons (test x) x (find test xs) (list_any test xs) (some_any test xs)

any_turned : {X : Type 0} (test : X → Bool) (xs : List X) → list_any test (reverse xs) ≡ list_any test xs
any_turned test [] = refl
any_turned test (x ∷ xs) =
    ap (list_any test) (reverse-append (x ∷ []) xs) ∙ list_any-append test (reverse xs) (x ∷ []) ∙ ap (λ b. b || list_any test (x ∷ [])) (any_turned test xs) ∙ swapped (test x) (list_any test xs)
  where
    swapped : (a b : Bool) → (b || (a || false)) ≡ (a || b)
    swapped true true = refl
    swapped true false = refl
    swapped false true = refl
    swapped false false = refl

pub named_any : (xs : List Given) (c : ℕ) → is_some (given_in xs c) ≡ list_any (λ x. x.cell.0 == c) xs
unfolding given_in
named_any xs c = some_any (λ x. x.cell.0 == c) (reverse xs) ∙ any_turned (λ x. x.cell.0 == c) xs

-- periods name a cell where the list of one of them does
pub periods_any : (ps : List Period) (c : ℕ) → is_some (last_given ps c) ≡ list_any (λ p. is_some (given_in p.stresses.given c)) ps
periods_any [] c = named_any [] c
periods_any (p ∷ ps) c = grind (arith, named_any, list_any-append, periods_any ps c)

named_lists : (ps : List Period) (c : ℕ) → list_any (λ p. is_some (given_in p.stresses.given c)) ps ≡ list_any (λ p. list_any (λ x. x.cell.0 == c) p.stresses.given) ps
named_lists [] c = refl
named_lists (p ∷ ps) c = λ i. named_any p.stresses.given c i || named_lists ps c i

take_fewer : {X : Type 0} (n : ℕ) (xs : List X) → take (min (length xs) n) xs ≡ take n xs
take_fewer n xs = grind (arith, cases_lt, take_all)

-- what the walk over the lists up to period p finds
pub given_among : (ps qs : List Period) (p n c : ℕ) (b : Bool) → qs ≡ ps → n ≡ min (length qs) p → b ≡
    list_any (λ q. list_any (λ x. x.cell.0 == c) q.stresses.given) (take n qs) → b ≡ is_some (last_given (take p ps) c)
given_among ps qs p n c b e count found = grind (arith, take_fewer, periods_any, named_lists)

-- for each of n cells the last of these entries that names it
abbrev pub table : ℕ → List Given → List (Option Given)
table n xs = map (given_in xs) (range_with_len 0 n)

-- one more entry
pub table_more : (n k : ℕ) (xs : List Given) (x : Given) → k ≡ x.cell.0 → k < n → set (table n xs) k (Some x) ≡ table n (xs ++ x ∷ [])
table_more n k xs x is lt = fill_by_all (given_in (xs ++ x ∷ [])) (set (table n xs) k (Some x)) n None (length-set (table n xs) k (Some x) ∙ length-map-range_with_len (given_in xs) 0 n) at
  where
    at : (j : ℕ) → j < n → get_or (set (table n xs) k (Some x)) j None ≡ given_in (xs ++ x ∷ []) j
    at j less = elim (cases_eq j k) [
      | inl same ↦ get_or-set_at (table n xs) k j (Some x) None same (omega (arith, length-map-range_with_len (given_in xs) 0 n)) ∙ sym
          (given_more xs x j ∙ cond-true (x.cell.0 == j) (Some x) (given_in xs j) (eq-eqb x.cell.0 j (sym is ∙ sym same)))
      | inr other ↦ get_or-set_other (table n xs) k j (Some x) None other ∙ get_or-map-range_with_len (given_in xs) 0 n j j None less (omega arith) ∙ sym
          (given_more xs x j ∙ cond-false (x.cell.0 == j) (Some x) (given_in xs j) (ne_eqb x.cell.0 j (λ e. other (sym e ∙ sym is))))
    ]

-- before all periods
pub table_none : (n : ℕ) → replicate n None ≡ table n []
unfolding given_in
table_none n = fill_by_all (given_in []) (replicate n None) n None (length-replicate n None) (λ j lt. get_or-replicate n j None None lt)

pub table_at : (n k : ℕ) (xs : List Given) (d : Option Given) → k < n → get_or (table n xs) k d ≡ given_in xs k
table_at n k xs d lt = get_or-map-range_with_len (given_in xs) 0 n k k d lt (omega arith)

-- the table of a model's period
abbrev pub lists_before : FlowModel → ℕ → List Given
lists_before m p = flat_map (λ q. q.stresses.given) (take p m.periods)

pub last_is : (m : FlowModel) (g : GivenHeads) (p : ℕ) → g ≡ given_heads m p → g.last ≡ table (cell_count m.grid) (lists_before m p)
unfolding given_heads
last_is m g p e = ap (λ x. x.last) e

pub heads_are : (m : FlowModel) (p : ℕ) (xs : List (Option Given)) → xs ≡ table (cell_count m.grid) (lists_before m p) → record { period = p; last = xs } ≡ given_heads m p
unfolding given_heads
heads_are m p xs e = ap (λ ys. record { period = p; last = ys }) e

pub length_is : (n : ℕ) (xs : List Given) (ys : List (Option Given)) → ys ≡ table n xs → length ys ≡ n
length_is n xs ys e = ap length e ∙ length-map-range_with_len (given_in xs) 0 n

-- the list that the next period has
pub period_list : (m : FlowModel) (p : ℕ) (qs : List Period) (q : Period) (xs : List Given) → p < length m.periods → qs ≡ m.periods → q ≡ get_or qs p q → xs ≡
    (get_or qs p q).stresses.given → xs ≡ (period_at m (p + 1)).stresses.given
period_list m p qs q xs lt e is list = grind (arith, get_or_read)

pub lists_more : (m : FlowModel) (p : ℕ) → p < length m.periods → lists_before m p ++ (period_at m (p + 1)).stresses.given ≡ lists_before m (p + 1)
lists_more m p lt =
    let more : take (p + 1) m.periods ≡ take p m.periods ++ get_or m.periods p no_period ∷ [] = take_more m.periods p no_period lt in
    let at : period_at m (p + 1) ≡ get_or m.periods p no_period = ap (λ k. get_or m.periods k no_period) (omega arith) in
    ap (λ (q : Period). lists_before m p ++ q.stresses.given) at ∙ flat_map_more (λ (q : Period). q.stresses.given) [] (take p m.periods)
    (get_or m.periods p no_period) ∙ ap (flat_map (λ (q : Period). q.stresses.given)) (sym more)

abbrev pub no_given : Given
no_given = record { cell = record { 0 = 0 }; shead = no_number; ehead = no_number }

-- the i-th entry of a list names a cell of the grid
pub names_within : (n i : ℕ) (xs : List Given) → i < length xs → All (λ x. x.cell.0 < n) xs → (get_or xs i no_given).cell.0 < n
names_within n i xs lt all = All-get_or (λ x. x.cell.0 < n) xs i no_given lt all

-- and the table with it
pub table_step : (n i : ℕ) (before xs : List Given) (ys : List (Option Given)) → ys ≡ table n (before ++ take i xs) → i < length xs → (get_or xs i no_given).cell.0 < n →
    set ys (get_or xs i no_given).cell.0 (Some (get_or xs i no_given)) ≡ table n (before ++ take (i + 1) xs)
table_step n i before xs ys e lt within = grind (arith, append_assoc, take_more, set, table_more)
