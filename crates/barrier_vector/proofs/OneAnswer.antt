-- A problem has one barrier or one refusal, and not both.
use Rattle.barrier_vector.proofs.Common.{◌≡◌, ℕ, suc, ◌<◌, inl, inr, refl, ◌∙◌, ap, subst, arith, List, [], ◌∷◌, length, ℤ, cases_lt, Side, Low, High, NoBound, Entries, head_at, IsProblem, IsHead}
use Rattle.barrier_vector.proofs.Common.{number_of, IsBoundOn, HasNoBound, IsOutOfRange, LeavesRange, no_barrier_on, range_on, Nowhere, IsLeastWith, Names, IsRefusedOn, BarrierExcludesRefusal}
use Rattle.barrier_vector.proofs.Common.{RefusalIsOne}
use Rattle.barrier_vector.proofs.{Uniques.bound_one, Uniques.has_a_bound, Sides.head_in_range}

pub same_heads : (xs ys : List ℤ) → length xs ≡ length ys → ((c : ℕ) → c < length xs → head_at xs c ≡ head_at ys c) → xs ≡ ys
same_heads [] [] whole same = refl
same_heads [] (y ∷ ys) whole same = absurd (omega arith)
same_heads (x ∷ xs) [] whole same = absurd (omega arith)
same_heads (x ∷ xs) (y ∷ ys) whole same =
    let rest = same_heads xs ys (omega arith) (λ c within. same (suc c) (omega arith)) in
    ap (λ b. b ∷ xs) (same 0 (omega arith)) ∙ ap (λ bs. y ∷ bs) rest

-- a side with a bound in range for each cell isn't refused
side_stands : (side : Side) (p : List Entries) (h : ℕ → ℤ) (n : NoBound) → IsProblem p → ((c : ℕ) → c < length p → IsBoundOn side p c (h c)) →
    ((c : ℕ) → c < length p → IsHead (h c)) → IsRefusedOn side p n → ⊥
side_stands side p h n ok bounds heads (c, inl (names, least)) = has_a_bound side p c (h c) (bounds c least.within) least.has
side_stands side p h n ok bounds heads (c, inr (names, nowhere, least)) =
    let (f, is, out) = least.has in
    head_in_range side (h c) (heads c least.within) (subst (IsOutOfRange side) (bound_one side p ok c f (h c) is (bounds c least.within)) out)

pub barrier_excludes_refusal : BarrierExcludesRefusal
barrier_excludes_refusal p b n ok x (inl low) = side_stands Low p (head_at b.floor) n ok x.floors x.fits.floor low
barrier_excludes_refusal p b n ok x (inr (nowhere, in_range, high)) = side_stands High p (head_at b.ceiling) n ok x.ceilings x.fits.ceiling high

-- two refusals of one number at the least cell with one property
least_is_one : (p : List Entries) (P : ℕ → Type 0) (c d : ℕ) → IsLeastWith p P c → IsLeastWith p P d → c ≡ d
least_is_one p P c d x y = grind (arith, cases_lt)

named_is_one : (p : List Entries) (n m : NoBound) (number c d : ℕ) (side : Side) → Names p n number c side → Names p m number d side → c ≡ d → n ≡ m
named_is_one p n m number c d side x y e = grind (arith)

pub same_least : (p : List Entries) (P : ℕ → Type 0) (n m : NoBound) (number c d : ℕ) (side : Side) → Names p n number c side → Names p m number d side → IsLeastWith p P c → IsLeastWith p P d → n ≡ m
same_least p P n m number c d side x y first second = named_is_one p n m number c d side x y (least_is_one p P c d first second)

one_refusal_on : (side : Side) (p : List Entries) (n m : NoBound) → IsRefusedOn side p n → IsRefusedOn side p m → n ≡ m
one_refusal_on side p n m (c, inl (names, least)) (d, inl (names', least')) = same_least p (HasNoBound side p) n m (number_of (no_barrier_on side)) c d side names names' least least'
one_refusal_on side p n m (c, inl (names, least)) (d, inr (names', nowhere, least')) = absurd (nowhere c least.within least.has)
one_refusal_on side p n m (c, inr (names, nowhere, least)) (d, inl (names', least')) = absurd (nowhere d least'.within least'.has)
one_refusal_on side p n m (c, inr (names, nowhere, least)) (d, inr (names', nowhere', least')) = same_least p (LeavesRange side p) n m (number_of (range_on side)) c d side names names' least least'

-- a side that is refused is not passed
not_passed : (side : Side) (p : List Entries) (n : NoBound) → IsRefusedOn side p n → Nowhere p (HasNoBound side p) → Nowhere p (LeavesRange side p) → ⊥
not_passed side p n (c, inl (names, least)) none in_range = none c least.within least.has
not_passed side p n (c, inr (names, nowhere, least)) none in_range = in_range c least.within least.has

pub refusal_is_one : RefusalIsOne
refusal_is_one p n m (inl x) (inl y) = one_refusal_on Low p n m x y
refusal_is_one p n m (inl x) (inr (none, in_range, y)) = absurd (not_passed Low p n x none in_range)
refusal_is_one p n m (inr (none, in_range, x)) (inl y) = absurd (not_passed Low p m y none in_range)
refusal_is_one p n m (inr (none, in_range, x)) (inr (none', in_range', y)) = one_refusal_on High p n m x y
