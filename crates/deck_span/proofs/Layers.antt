-- The first difference of arrays that are read layer by layer.
use Rattle.deck_span.proofs.Common.{◌≡◌, ℕ, zero, suc, ◌/◌, ◌<◌, ◌≤◌, List, [], ◌∷◌, Option, Some, None, subst, sym, ap, refl, arith, ◌⊎◌, inl, inr, MatchOption, ◌+◌, length, get_or, take, ◌∙◌}
use Rattle.deck_span.proofs.Common.{AllZip, cases_lt, cond_above, cond_below, Dec, AreSame, IsFirst, IsFirstOfLayers, array_at, IsFound, earlier, AllZip-get_or, slice_get_within}
use Rattle.deck_span.proofs.Common.{get_or_from_slice_get, take_more, get_or-take, length-take-le}
use Rattle.std.proofs.lemmas.Slice.Zip.{all_zipped_more}

-- Two lists whose items are alike, and the first place at which they aren't.
module _ {X : Type 0} (R : X → X → Type 0) (xs ys : List X) where
  -- one place more
  pub zip_more : (i : ℕ) (x y : X) → i < length xs → length ys ≡ length xs → x ≡ get_or xs i x → y ≡ get_or ys i y →
      AllZip R (take i xs) (take i ys) → R x y → AllZip R (take (i + 1) xs) (take (i + 1) ys)
  zip_more i x y lt long e d h r =
      let below : i < length ys = omega arith in
      let u : x ∷ [] ≡ get_or xs i x ∷ [] = ap (λ (z : X). z ∷ []) e in
      let v : y ∷ [] ≡ get_or ys i y ∷ [] = ap (λ (z : X). z ∷ []) d in
      rw (take_more xs i x lt, take_more ys i y below, ← e, ← d) (all_zipped_more R (take i xs) (take i ys) x y h r)

  -- the same, where the items aren't named
  pub zip_more_at : (i : ℕ) (d e : X) → i < length xs → length ys ≡ length xs → AllZip R (take i xs) (take i ys) → R (get_or xs i d) (get_or ys i e) → AllZip R (take (i + 1) xs) (take (i + 1) ys)
  zip_more_at i d e lt long h r =
      let below : i < length ys = omega arith in
      rw (take_more xs i d lt, take_more ys i e below) (all_zipped_more R (take i xs) (take i ys) (get_or xs i d) (get_or ys i e) h r)

  pub first_within : (k : ℕ) → IsFirst R xs ys k → k < length xs
  first_within k h = slice_get_within xs k h.first h.of_first

  -- at a place past k the items before it aren't all alike
  first_refutes : (k n : ℕ) → IsFirst R xs ys k → k < n → n ≤ length xs → AllZip R (take n xs) (take n ys) → ⊥
  first_refutes k n h lt within all =
      let at = AllZip-get_or R (take n xs) (take n ys) k h.first h.second all (rw (length-take-le n xs within) lt) in
      h.unlike (subst (λ x. R x h.second) (get_or-take n xs k h.first lt ∙ get_or_from_slice_get xs k h.first h.first h.of_first)
      (subst (λ y. R (get_or (take n xs) k h.first) y) (get_or-take n ys k h.second lt ∙ get_or_from_slice_get ys k h.second h.second h.of_second) at))

  -- so not all items are alike
  pub first_not_all : (k : ℕ) → IsFirst R xs ys k → AllZip R xs ys → ⊥
  first_not_all k h all =
      h.unlike (subst (λ x. R x h.second) (get_or_from_slice_get xs k h.first h.first h.of_first)
      (subst (λ y. R (get_or xs k h.first) y) (get_or_from_slice_get ys k h.second h.second h.of_second)
      (AllZip-get_or R xs ys k h.first h.second all (first_within k h))))

  -- there is one first place
  pub first_is_one : (k n : ℕ) → IsFirst R xs ys k → IsFirst R xs ys n → k ≡ n
  first_is_one k n h j =
      let hk = first_within k h in
      let jn = first_within n j in
      by_order (λ lt. first_refutes k n h lt (omega arith) j.before) (λ lt. first_refutes n k j lt (omega arith) h.before)
    where
      by_order : (k < n → ⊥) → (n < k → ⊥) → k ≡ n
      by_order a b = omega arith

abbrev Later : ℕ → ℕ → ℕ → ℕ → ℕ → Type 0
Later size k array n i = (k / size < n / size) ⊎ ((k / size ≡ n / size) × (array ≤ i))

-- a place isn't read after itself
itself : (size k n i : ℕ) → k ≡ n → Later size k zero n i
itself size k n i e = inr (ap (λ (j : ℕ). j / size) e, omega arith)

-- a place of an earlier array in the same layer, or in a layer above, is read before
above : (size k m n array i : ℕ) → k / size ≤ m / size → Later size m array n i → Later size k zero n (suc i)
above size k m n array i le (inl lt) = inl (omega arith)
above size k m n array i le (inr same) = grind (arith, cases_lt, zero)

deeper : (size k array n i : ℕ) → Later size k array n i → Later size k (suc array) n (suc i)
deeper size k array n i (inl lt) = inl lt
deeper size k array n i (inr same) = inr (same.0, omega (arith, same.1))

module _ (size : ℕ) (xs ys : List Dec) (xss yss : List (List Dec)) where
  -- the first of these arrays is the one that differs first
  head_first : (k : ℕ) → IsFirst AreSame xs ys k → ((i n : ℕ) → IsFirst AreSame (array_at xss i) (array_at yss i) n → Later size k zero n (suc i)) → IsFirstOfLayers size (xs ∷ xss) (ys ∷ yss) k
  head_first k h rest = record { array = zero; first = h; others = others }
    where
      others : (i n : ℕ) → IsFirst AreSame (array_at (xs ∷ xss) i) (array_at (ys ∷ yss) i) n → Later size k zero n i
      others zero n j = itself size k n zero (first_is_one AreSame xs ys k n h j)
      others (suc i) n j = rest i n j

  -- one of the others is
  tail_first : (k : ℕ) → IsFirstOfLayers size xss yss k → ((n : ℕ) → IsFirst AreSame xs ys n → k / size < n / size) → IsFirstOfLayers size (xs ∷ xss) (ys ∷ yss) k
  tail_first k h below = record { array = suc h.array; first = h.first; others = others }
    where
      others : (i n : ℕ) → IsFirst AreSame (array_at (xs ∷ xss) i) (array_at (ys ∷ yss) i) n → Later size k (suc h.array) n i
      others zero n j = inl (below n j)
      others (suc i) n j = deeper size k h.array n i (h.others i n j)

  all_same : AllZip AreSame xs ys → ((i : ℕ) → AllZip AreSame (array_at xss i) (array_at yss i)) → (i : ℕ) → AllZip AreSame (array_at (xs ∷ xss) i) (array_at (ys ∷ yss) i)
  all_same h rest zero = h
  all_same h rest (suc i) = rest i

  -- one array more, before the others
  pub found_more : (p q : Option ℕ) → MatchOption p (AllZip AreSame xs ys) (IsFirst AreSame xs ys) → IsFound size xss yss q → IsFound size (xs ∷ xss) (ys ∷ yss) (earlier size p q)
  found_more None None h rest = all_same h rest
  found_more None (Some k) h rest = tail_first k rest (λ n j. absurd (first_not_all AreSame xs ys n j h))
  found_more (Some k) None h rest = head_first k h (λ i n j. absurd (first_not_all AreSame _ _ n j (rest i)))
  found_more (Some k) (Some m) h rest = elim (cases_lt (m / size) (k / size)) [
    | inl lt ↦
        subst (IsFound size (xs ∷ xss) (ys ∷ yss)) (cond_below (m / size) (k / size) (Some m) (Some k) lt)
        (tail_first m rest (λ n j. let e : k ≡ n = first_is_one AreSame xs ys k n h j in subst (λ (i : ℕ). m / size < i / size) e lt))
    | inr le ↦
        subst (IsFound size (xs ∷ xss) (ys ∷ yss)) (cond_above (m / size) (k / size) (Some m) (Some k) (Some k) le refl)
        (head_first k h (λ i n j. above size k m n rest.array i le (rest.others i n j)))
  ]

-- no arrays
found_none : (size : ℕ) → IsFound size [] [] None
found_none size = λ i. tt

-- one array more, where the code names it otherwise
pub found_step : (size : ℕ) (xs ys us vs : List Dec) (xss yss : List (List Dec)) (p q r : Option ℕ) → us ≡ xs → vs ≡ ys → r ≡ earlier size p q →
    MatchOption p (AllZip AreSame us vs) (IsFirst AreSame us vs) → IsFound size xss yss q → IsFound size (xs ∷ xss) (ys ∷ yss) r
found_step size xs ys us vs xss yss p q r e d is h rest =
    subst (IsFound size (xs ∷ xss) (ys ∷ yss)) (sym is)
    (found_more size xs ys xss yss p q (subst (λ ws. MatchOption p (AllZip AreSame xs ws) (IsFirst AreSame xs ws)) d
    (subst (λ ws. MatchOption p (AllZip AreSame ws vs) (IsFirst AreSame ws vs)) e h)) rest)

-- one array
pub found_one : (size : ℕ) (xs ys us vs : List Dec) (p : Option ℕ) → us ≡ xs → vs ≡ ys → MatchOption p (AllZip AreSame us vs) (IsFirst AreSame us vs) → IsFound size (xs ∷ []) (ys ∷ []) p
found_one size xs ys us vs None e d h = found_step size xs ys us vs [] [] None None None e d refl h (found_none size)
found_one size xs ys us vs (Some k) e d h = found_step size xs ys us vs [] [] (Some k) None (Some k) e d refl h (found_none size)
