-- Links, known heads and ramps that conduct, from sums that do; and sums that are 0.
use Rattle.cell_balance.proofs.Common.{[], ◌*ℤ◌, ◌+ℤ◌, ◌<ℤ◌, ◌<◌, ◌∷◌, ◌≡◌, ◌≤ℤ◌, All, Bool, List, arith, cond, false, inl, inr, nat_eq, pos, refl, subst, true, ℕ, ℤ, AllZip, zero-*ℤ, cases_eq}
use Rattle.cell_balance.proofs.Common.{eq-eqb, ne_eqb, ints, All-cons, All-head, All-nil, All-tail, total, ◌-ℤ◌, ◌∙◌, length, ap, sum_inside}
use Rattle.cell_balance.proofs.{Dry.total-none, Dry.weight, Dry.by_weight, Dry.IsMutual, Dry.dry_balance, Dry.dry_fixed, Zips.WholeEntry, Zips.WholeLink, Zips.WholeCell, Zips.whole_at}
use Rattle.cell_balance.proofs.{Zips.whole_link, Zips.whole_fixed, Zips.whole_deep, Zips.whole_balance, Zips.IsDry, WholeBalances.known_conductance, WholeBalances.known_flow, WholeBalances.a_of}
use Rattle.cell_balance.proofs.{Ramps.AreMutual, Sums.link_flows_cancel, Sums.sum-same, Sums.sum_inside-add, Sums.sum_inside_at_most, Deep.total_nonneg}

-- a fact of each right element passes to the left one
pub All-back : {X Y : Type 0} (R : X → Y → Type 0) (P : X → Type 0) (Q : Y → Type 0) → ((x : X) (y : Y) → R x y → Q y → P x) → (xs : List X) (ys : List Y) → AllZip R xs ys → All Q ys → All P xs
All-back R P Q each [] ys h a = All-nil P
All-back R P Q each (x ∷ xs) [] h a = absurd h
All-back R P Q each (x ∷ xs) (y ∷ ys) h a = All-cons P x xs (each x y h.0 (All-head Q y ys a)) (All-back R P Q each xs ys h.1 (All-tail Q y ys a))

share_nonneg : (s : Bool) (c : ℕ) → pos 0 ≤ℤ cond s (pos c) (pos 0)
share_nonneg true c = omega (arith, ints)
share_nonneg false c = omega (arith, ints)

pub weight_nonneg : (xs : List WholeLink) (k : ℕ) → pos 0 ≤ℤ weight xs k
weight_nonneg [] k = omega (arith, ints)
weight_nonneg (x ∷ xs) k = omega (arith, ints, share_nonneg (nat_eq x.cell k) x.c, weight_nonneg xs k)

-- each link that conducts gives weight to the cell that it leads to
pub links_lead_to_weight : (S : ℕ → Type 0) (n : ℕ) (xs : List WholeLink) → ((k : ℕ) → k < n → pos 0 <ℤ weight xs k → S k) → All (λ x. 0 < x.c → x.cell < n → S x.cell) xs
links_lead_to_weight S n [] h = All-nil (λ x. 0 < x.c → x.cell < n → S x.cell)
links_lead_to_weight S n (x ∷ xs) h =
    All-cons (λ x. 0 < x.c → x.cell < n → S x.cell) x xs
    (λ c i. h x.cell i (rw (eq-eqb x.cell x.cell refl) (omega (arith, ints, weight_nonneg xs x.cell))))
    (links_lead_to_weight S n xs (λ k i w. h k i (omega (arith, ints, share_nonneg (nat_eq x.cell k) x.c))))

-- and where weight is, a link leads
pub weight_is_of_links : (T : ℕ → Type 0) (xs : List WholeLink) (k : ℕ) → All (λ x. T x.cell) xs → pos 0 <ℤ weight xs k → T k
weight_is_of_links T [] k all h = absurd (omega (arith, ints))
weight_is_of_links T (x ∷ xs) k all h =
    elim (cases_eq x.cell k) [
      | inl e ↦ subst (λ (z : ℕ). T z) e (All-head (λ x. T x.cell) x xs all)
      | inr e ↦ weight_is_of_links T xs k (All-tail (λ x. T x.cell) x xs all) (omega (arith, ints, rw (ne_eqb x.cell k e) at h))
    ]

-- where conductances sum to 0, each is 0
pub total_positive : {X : Type 0} (f : X → ℕ) (xs : List X) → pos 0 ≤ℤ total (λ x. pos (f x)) xs
total_positive f [] = omega (arith, ints)
total_positive f (x ∷ xs) = omega (arith, ints, total_positive f xs)

pub none_conduct : {X : Type 0} (f : X → ℕ) (xs : List X) → total (λ x. pos (f x)) xs ≡ pos 0 → All (λ x. f x ≡ 0) xs
none_conduct f [] h = All-nil (λ x. f x ≡ 0)
none_conduct f (x ∷ xs) h = All-cons (λ x. f x ≡ 0) x xs (omega (arith, ints, total_positive f xs)) (none_conduct f xs (omega (arith, ints, total_positive f xs)))

pub no_known_conductance : (xs : List WholeEntry) → known_conductance xs ≡ 0 → All (λ x. x.c ≡ 0) xs
no_known_conductance [] h = All-nil (λ x. x.c ≡ 0)
no_known_conductance (x ∷ xs) h = All-cons (λ x. x.c ≡ 0) x xs (omega arith) (no_known_conductance xs (omega arith))

pub no_known_flow : (xs : List WholeEntry) → known_conductance xs ≡ 0 → total known_flow xs ≡ pos 0
no_known_flow xs h = total-none (λ x. x.c ≡ 0) known_flow xs (λ x e. rw (e, zero-*ℤ) refl) (no_known_conductance xs h)

pub both_ways : (w : List WholeCell) → IsMutual w → AreMutual (length w) (a_of w)
both_ways w both = record { nonneg = λ i j. weight_nonneg (whole_at w i).links j; same = both.same }

-- over a set that no link leaves the flows over links cancel
pub closed_cancel : (w : List WholeCell) (inside : ℕ → Bool) (Y : ℕ → ℤ) → IsMutual w →
    ((c : ℕ) → c < length w → inside c ≡ true → All (λ x. inside x.cell ≡ true) (whole_at w c).links) →
    sum_inside (length w) inside (λ c. total (whole_link Y (Y c)) (whole_at w c).links) ≡ pos 0
closed_cancel w inside Y both closed =
    sum-same (length w) _ _ (λ c i. ap (λ (z : ℤ). cond (inside c) z (pos 0)) (by_weight (length w) (whole_at w c).links (λ k. Y k -ℤ Y c) (both.range c i)))
    ∙ link_flows_cancel (length w) (a_of w) inside Y (both_ways w both) (λ i j h k t conducts. weight_is_of_links (λ z. inside z ≡ true) (whole_at w i).links j (closed i h t) conducts)

-- The dry law: over such a set, each of whose heads lies at or below every bottom, elevation and fixed head there that conducts, the balances sum to at least the deep flows.
pub dry_law : (w : List WholeCell) (Y : ℕ → ℤ) → IsMutual w → (inside : ℕ → Bool) (t : ℕ → ℤ) →
    ((c : ℕ) → c < length w → inside c ≡ true → (Y c ≤ℤ t c) × IsDry (t c) (whole_at w c)) →
    ((c : ℕ) → c < length w → inside c ≡ true → All (λ x. inside x.cell ≡ true) (whole_at w c).links) →
    sum_inside (length w) inside (λ c. whole_deep (whole_at w c)) ≤ℤ sum_inside (length w) inside (λ c. whole_balance (whole_at w c) (Y c) Y)
dry_law w Y both inside t dry closed =
    let links = λ (c : ℕ). total (whole_link Y (Y c)) (whole_at w c).links in
    let deep = λ (c : ℕ). whole_deep (whole_at w c) in
    let less = sum_inside_at_most (length w) inside (λ c. links c +ℤ deep c) (λ c. whole_balance (whole_at w c) (Y c) Y)
    (λ c i e.
    let (low, dried) = dry c i e in
    let some = total_nonneg _ (whole_fixed (Y c)) (whole_at w c).fixed (dry_fixed (Y c) (t c) low) dried.fixed in
    omega (arith, ints, dry_balance Y (Y c) (t c) (whole_at w c) low dried, some)) in
    let parts = sum_inside-add (length w) inside links deep in
    omega (arith, ints, closed_cancel w inside Y both closed)
