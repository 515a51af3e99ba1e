-- Ascending keys are the numbers that pass the test of being one, in order; so their pairs are the pairs that pass it.
use Rattle.zone_pairs.proofs.Common.{◌≡◌, ℕ, zero, suc, ◌+◌, ◌*◌, ◌<◌, ◌≤◌, inl, inr, Bool, true, false, cond, ◌||◌, refl, sym, ap, ◌∙◌, arith, List, [], ◌∷◌, ◌++◌, map, flat_map, AllByRecursion}
use Rattle.zone_pairs.proofs.Common.{list_any, range_with_len, nat_cmp, cases_order, or_right, map-append, ZonePair, pair_of, pairs_below, filter}
use Rattle.std.specs.{BTreeMap.is_at, List.Sorted.IsStrictlySortedBy, declared.cmp.Ordering.TheVariants.Less}
use Rattle.std.proofs.lemmas.Bool.Decides.{nat_tests}

-- whether q is one of the keys
abbrev pub has : List ℕ → ℕ → Bool
has ks q = list_any (is_at (nat_cmp q)) ks

abbrev pub Ascend : List ℕ → Type 0
Ascend ks = IsStrictlySortedBy nat_cmp ks

is_itself : (q k : ℕ) (more : Bool) → q ≡ k → (is_at (nat_cmp q) k || more) ≡ true
is_itself q k more e = grind (arith, nat_tests)

is_other : (q k : ℕ) → (q ≡ k → ⊥) → is_at (nat_cmp q) k ≡ false
is_other q k apart = grind (arith, nat_tests)

-- a number below all keys is none of them
none_below : (q : ℕ) (ks : List ℕ) → AllByRecursion (λ k. q < k) ks → has ks q ≡ false
none_below q [] above = refl
none_below q (k ∷ ks) above = rw (is_other q k (λ e. let l = above.0 in omega (arith, e, l))) (none_below q ks above.1)

all_above : (k : ℕ) (ks : List ℕ) → AllByRecursion (λ j. nat_cmp k j ≡ Less) ks → (s : ℕ) → s ≤ k → AllByRecursion (λ j. s < j) ks
all_above k [] h s l = tt
all_above k (j ∷ ks) h s l = (let first = h.0 in let a : k < j = grind (arith, nat_tests) in omega (arith, a, l), all_above k ks h.1 s l)

-- the keys are from s on and below e
abbrev Between : ℕ → ℕ → List ℕ → Type 0
Between s e ks = AllByRecursion (λ k. (s ≤ k) × (k < e)) ks

later : (s e : ℕ) (ks : List ℕ) → AllByRecursion (λ k. s < k) ks → Between s e ks → Between (s + 1) e ks
later s e [] a b = tt
later s e (k ∷ ks) a b = let l = a.0 in let h = b.0.1 in ((omega (arith, l), h), later s e ks a.1 b.1)

module _ (test : ℕ → Bool) where
  pub passing_are : (n s e : ℕ) (ks : List ℕ) → s + n ≡ e → Ascend ks → Between s e ks → ((q : ℕ) → s ≤ q → test q ≡ has ks q) → filter test (range_with_len s n) ≡ ks
  unfolding IsStrictlySortedBy
  passing_are zero s e [] end up within same = refl
  passing_are zero s e (k ∷ ks) end up within same = absurd (let a = within.0 in omega (arith, a, end))
  passing_are (suc n) s e [] end up within same =
      let rest : List ℕ = filter test (range_with_len (s + 1) n) in
      ap (λ b. cond b (s ∷ rest) rest) (same s (omega arith))
      ∙ passing_are n (s + 1) e [] (omega (arith, end)) tt tt (λ q l. same q (omega (arith, l)))
  passing_are (suc n) s e (k ∷ ks) end up within same =
      let rest : List ℕ = filter test (range_with_len (s + 1) n) in
      elim (cases_order s k) [
        | inl is ↦
            (let above = all_above k ks up.0 s (omega (arith, is)) in
            ap (λ b. cond b (s ∷ rest) rest) (same s (omega arith) ∙ is_itself s k (has ks s) is)
            ∙ ap (λ (x : ℕ). x ∷ rest) is
            ∙ ap (λ (xs : List ℕ). k ∷ xs) (passing_are n (s + 1) e ks (omega (arith, end)) up.1 (later s e ks above within.1) (λ q l. same q (omega (arith, l)) ∙ past k ks q (omega (arith, l, is)))))
        | inr (inl below) ↦
            (let above = all_above k ks up.0 s (omega (arith, below)) in
            ap (λ b. cond b (s ∷ rest) rest) (same s (omega arith) ∙ none_below s (k ∷ ks) (below, above))
            ∙ passing_are n (s + 1) e (k ∷ ks) (omega (arith, end)) up (later s e (k ∷ ks) (below, above) within) (λ q l. same q (omega (arith, l))))
        | inr (inr over) ↦ absurd (let a = within.0 in omega (arith, a, over))
      ]
    where
      past : (k : ℕ) (ks : List ℕ) (q : ℕ) → k < q → has (k ∷ ks) q ≡ has ks q
      past k ks q l = rw (is_other q k (λ e. omega (arith, e, l))) refl

-- The pairs of the numbers below a million are all pairs.
abbrev pair : ℕ → ℕ → ZonePair
pair a b = record { from = a; to = b }

pair_is : (a b : ℕ) → b < 1000 → Path ZonePair (pair a b) (pair_of (a * 1000 + b))
pair_is a b h = grind (arith)

row : (a b n : ℕ) → b + n ≤ 1000 → map (pair a) (range_with_len b n) ≡ map pair_of (range_with_len (a * 1000 + b) n)
row a b zero h = refl
row a b (suc n) h = grind (arith, pair_is, row a (b + 1) n (omega (arith, h)))

together : (s n k : ℕ) → range_with_len s (n + k) ≡ range_with_len s n ++ range_with_len (s + n) k
together s zero k = let here : s ≡ s + 0 = omega arith in let same : 0 + k ≡ k = omega arith in ap (range_with_len s) same ∙ ap (λ x. range_with_len x k) here
together s (suc n) k =
    let next : s + 1 + n ≡ s + suc n = omega arith in
    let split : suc n + k ≡ suc (n + k) = omega arith in
    ap (range_with_len s) split ∙ ap (λ (xs : List ℕ). s ∷ xs) (together (s + 1) n k ∙ ap (λ x. range_with_len (s + 1) n ++ range_with_len x k) next)

module _ (n : ℕ) (is : n ≡ 1000) where
  rows : (k a : ℕ) → flat_map (λ x. map (pair x) (range_with_len 0 n)) (range_with_len a k) ≡ map pair_of (range_with_len (a * 1000) (k * 1000))
  rows zero a = let none : 0 * 1000 ≡ 0 = refl in refl
  rows (suc k) a =
      let this : a * 1000 + 0 ≡ a * 1000 = omega arith in
      let next : (a + 1) * 1000 ≡ a * 1000 + n = omega (arith, is) in
      let size : n + k * 1000 ≡ suc k * 1000 = omega (arith, is) in
      ap (λ (zs : List ZonePair). zs ++ flat_map (λ x. map (pair x) (range_with_len 0 n)) (range_with_len (a + 1) k)) (row a 0 n (omega (arith, is)) ∙ ap (λ x. map pair_of (range_with_len x n)) this)
      ∙ ap (λ (zs : List ZonePair). map pair_of (range_with_len (a * 1000) n) ++ zs) (rows k (a + 1) ∙ ap (λ x. map pair_of (range_with_len x (k * 1000))) next)
      ∙ sym (map-append pair_of (range_with_len (a * 1000) n) (range_with_len (a * 1000 + n) (k * 1000)))
      ∙ ap (map pair_of) (sym (together (a * 1000) n (k * 1000)))
      ∙ ap (λ x. map pair_of (range_with_len (a * 1000) x)) size

  all_pairs : pairs_below n ≡ map pair_of (range_with_len 0 (n * 1000))
  unfolding pairs_below
  all_pairs = rows n 0

one_mapped : (f : ℕ → ZonePair) (x : ℕ) (b : Bool) (zs : List ZonePair) (xs : List ℕ) → zs ≡ map f xs → cond b (f x ∷ zs) zs ≡ map f (cond b (x ∷ xs) xs)
one_mapped f x true zs xs e = ap (λ (ys : List ZonePair). f x ∷ ys) e
one_mapped f x false zs xs e = e

filter_mapped : (f : ℕ → ZonePair) (test : ZonePair → Bool) (xs : List ℕ) → filter test (map f xs) ≡ map f (filter (λ x. test (f x)) xs)
filter_mapped f test [] = refl
filter_mapped f test (x ∷ xs) = one_mapped f x (test (f x)) (filter test (map f xs)) (filter (λ y. test (f y)) xs) (filter_mapped f test xs)

each_key : (P : ℕ → Type 0) (ks : List ℕ) → ((q : ℕ) → has ks q ≡ true → P q) → AllByRecursion P ks
each_key P [] h = tt
each_key P (k ∷ ks) h = (h k (is_itself k k (has ks k) refl), each_key P ks (λ q i. h q (on q i)))
  where
    on : (q : ℕ) → has ks q ≡ true → has (k ∷ ks) q ≡ true
    on q i = or_right (is_at (nat_cmp q) k) (has ks q) i

-- the pairs of ascending keys that are those whose pairs pass a test
pub pairs_are : (n : ℕ) → n ≡ 1000 → (test : ZonePair → Bool) (ks : List ℕ) → Ascend ks → ((q : ℕ) → test (pair_of q) ≡ has ks q) →
    ((q : ℕ) → test (pair_of q) ≡ true → q < n * 1000) → map pair_of ks ≡ filter test (pairs_below n)
pairs_are n is test ks up same small =
    let within : Between 0 (n * 1000) ks = each_key (λ k. (0 ≤ k) × (k < n * 1000)) ks (λ q i. (omega arith, small q (same q ∙ i))) in
    ap (map pair_of) (sym (passing_are (λ q. test (pair_of q)) (n * 1000) 0 (n * 1000) ks (omega arith) up within (λ q l. same q)))
    ∙ sym (filter_mapped pair_of test (range_with_len 0 (n * 1000)))
    ∙ ap (filter test) (sym (all_pairs n is))
