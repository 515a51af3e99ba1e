-- Lists of roots, one cell after another, and what anchors a cell.
use Rattle.barrier_vector.proofs.Common.{◌≡◌, ℕ, zero, suc, ◌+◌, ◌<◌, ◌≤◌, inl, inr, refl, ◌∙◌, ap, subst, arith, List, [], ◌∷◌, ◌++◌, length, max, drop, get_or, Contains, Option, Some, min, cases_lt}
use Rattle.barrier_vector.proofs.Common.{at_drop_more, Side, Low, High, Fixed, Entries, entries_at, IsProblem, IsAnchored, greatest, anchor_on, mark_at, IsSearched, HasEach, anchor_drop, ceil_over}
use Rattle.barrier_vector.proofs.Common.{path_limit, AreLabels, cases_order, get_or_append_left, get_or_push, length_push}
use Rattle.barrier_vector.proofs.CarriedRoots.{reaches_within, turn_way}

-- one place more
pub each_more : {X : Type 0} (d : X) (Is : ℕ → X → Type 0) (i : ℕ) (xs xs' : List X) (x : X) → xs' ≡ xs ++ x ∷ [] → Is i x → HasEach d Is i xs → HasEach d Is (i + 1) xs'
each_more d Is i xs xs' x is here h = grind (arith, length_push, cases_order, get_or_push, get_or_append_left)

-- the drop of an anchor
pub drop_of : (q a : ℕ) → 0 < a → anchor_drop q a ≡ Some (ceil_over q a)
drop_of q zero h = absurd (omega arith)
drop_of q (suc a) h = refl

pub drop_is : (q a d : ℕ) → anchor_drop q a ≡ Some d → (0 < a) × (d ≡ ceil_over q a)
drop_is q zero d e = absurd cc
drop_is q (suc a) d e = (omega arith, cc)

-- one entry more
pub greatest_on : {X : Type 0} (f : X → ℕ) (xs : List X) (i : ℕ) (x : X) (best new v : ℕ) → i < length xs → x ≡ get_or xs i x → v ≡ f x → new ≡ max v best →
    max best (greatest f (drop i xs)) ≡ greatest f xs → max new (greatest f (drop (i + 1) xs)) ≡ greatest f xs
greatest_on f xs i x best new v h is from e so_far =
    let more : greatest f (drop i xs) ≡ max (f (get_or xs i x)) (greatest f (drop (i + 1) xs)) = at_drop_more (greatest f) xs i x h in
    let same = ap f is in
    omega (arith, e, from ∙ same)

-- the greatest is above 0 just where an entry is
pub greatest_has : {X : Type 0} (f : X → ℕ) (xs : List X) → 0 < greatest f xs → (x : X) × Contains xs x × (f x ≡ greatest f xs)
greatest_has f [] h = absurd (omega arith)
greatest_has f (x ∷ xs) h =
    elim (cases_lt (f x) (greatest f xs)) [
      | inl less ↦ let (z, has, is) = greatest_has f xs (omega arith) in (z, (suc has.0, omega (arith, has.1), has.2), omega (arith, is, less))
      | inr more ↦ (x, (0, omega arith, refl), omega arith)
    ]

pub at_most_greatest : {X : Type 0} (f : X → ℕ) (xs : List X) (x : X) → Contains xs x → f x ≤ greatest f xs
at_most_greatest f [] x (k, h, e) = absurd (omega arith)
at_most_greatest f (y ∷ xs) x (zero, h, e) = let same = ap f e in omega (arith, same)
at_most_greatest f (y ∷ xs) x (suc k, h, e) = let le = at_most_greatest f xs x (k, omega arith, e) in omega (arith, le)

-- what anchors a cell on the low side
pub anchored_by : (p : List Entries) (c : ℕ) → 0 < anchor_on Low (entries_at p c) → IsAnchored p c
anchored_by p c h = let (x, has, is) = greatest_has (λ (x : Fixed). x.lo) (entries_at p c).fixed h in (x, has, omega (arith, h, is))

-- a fixed link that certainly conducts anchors its cell on both sides
pub anchors : (side : Side) (p : List Entries) (c : ℕ) → IsAnchored p c → 0 < anchor_on side (entries_at p c)
anchors Low p c (x, has, h) = let le = at_most_greatest (λ (x : Fixed). x.lo) (entries_at p c).fixed x has in omega (arith, h, le)
anchors High p c (x, has, h) = let le = at_most_greatest (λ (x : Fixed). x.lo) (entries_at p c).fixed x has in omega (arith, h, le)

-- a search over equal roots and flows
pub searched_as : (p : List Entries) (q r : ℕ) (own o : List (Option ℕ)) (levels : List (Option ℕ)) (paths : List ℕ) → q ≡ r → o ≡ own → IsSearched p q o levels paths → IsSearched p r own levels paths
searched_as p q r own o levels paths e f s = subst (λ (n : ℕ). IsSearched p n own levels paths) e (subst (λ (z : List (Option ℕ)). IsSearched p q z levels paths) f s)

-- Cut paths; lists of bounds.
-- a label is a cell of the problem
pub label_within : (p : List Entries) → IsProblem p → (labels : List (Option ℕ)) → AreLabels p labels (length p) → (c m : ℕ) → c < length p → mark_at labels c ≡ Some m → m < length p
label_within p ok labels l c m h e = let (j, way) = l.reached c m e in let (i, back_way) = turn_way p ok j m c way in reaches_within p ok i c m h back_way

pub capped_within : (x s : ℕ) → x ≡ min s path_limit → x ≤ path_limit
capped_within x s e = omega (arith, e)
