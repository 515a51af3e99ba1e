-- What enters the cells below a head over their links, in all no more than the needs of all cells: besides their links cells get no less than what they need.
use Rattle.barrier_vector.proofs.Common.{◌≡◌, ℕ, ◌<◌, refl, sym, ◌∙◌, arith, ℤ, pos, ◌+ℤ◌, ◌≤ℤ◌, ◌<ℤ◌, List, length, Bool, true, false, cond, zero, suc, ◌+◌, ◌≤◌, subst, ◌*ℤ◌, [], ◌∷◌, get_or, take}
use Rattle.barrier_vector.proofs.Common.{sum_by, All, Contains, ints, lt_z, true_is_lt, lt_out, total, entries_at, no_entries, mul_nonneg, sum_inside, sum_below, total_nonneg, add_mul, sum-add}
use Rattle.barrier_vector.proofs.Common.{sum-same, term-le-sum, IsMutual, cut_link, cut_links, WholeLink, WholeCell, whole_link, whole_at, AllZip-at, AllZip-length, AllZip, sum_inside-zero, add-one}
use Rattle.barrier_vector.proofs.Common.{sum_by_more, All-head, All-tail, Contains-get_or, Entries}

pub test_true : (a b : ℤ) → a <ℤ b → lt_z a b ≡ true
test_true a b h = sym (true_is_lt a b (lt_out a b h))

abbrev pub lies_below : (ℕ → ℤ) → ℤ → ℕ → Bool
lies_below Y t k = lt_z (Y k) t

-- no flow over a cut link leaves the cells below t
pub cut_enters : (Y : ℕ → ℤ) (t y : ℤ) → y <ℤ t → (x : WholeLink) → pos 0 ≤ℤ cut_link (lies_below Y t) Y y x
cut_enters Y t y h x = grind (arith, whole_link, mul_nonneg)

-- Y are heads; besides its links cell c gets `rest c`
module _ (w : List WholeCell) (both : IsMutual w) (Y rest need : ℕ → ℤ) (t : ℤ)
    (solved : (c : ℕ) → c < length w → total (whole_link Y (Y c)) (whole_at w c).links +ℤ rest c ≡ pos 0)
    (gets : (c : ℕ) → c < length w → Y c <ℤ t → pos 0 ≤ℤ (rest c +ℤ need c))
  where
    abbrev over_cut : ℕ → ℤ
    over_cut k = total (cut_link (lies_below Y t) Y (Y k)) (whole_at w k).links

    pub links_give : (c : ℕ) → Y c <ℤ t → pos 0 ≤ℤ over_cut c
    links_give c h = total_nonneg (λ x. Unit {0}) _ (whole_at w c).links (λ x u. cut_enters Y t (Y c) h x) (λ k d i. tt)

    some : (k : ℕ) → k < length w → (b : Bool) → lies_below Y t k ≡ b → pos 0 ≤ℤ cond b (over_cut k +ℤ (rest k +ℤ need k)) (pos 0)
    some k j true e =
        let h : Y k <ℤ t = omega (arith, ints) in
        let a = links_give k h in let b = gets k j h in omega (arith, ints, a, b)
    some k j false e = omega (arith, ints)

    split : (a r q : ℤ) (b : Bool) → cond b (a +ℤ (r +ℤ q)) (pos 0) ≡ cond b (a +ℤ r) (pos 0) +ℤ cond b q (pos 0)
    split a r q true = omega (arith, ints)
    split a r q false = refl

    -- one cell below t gets over cut links, and otherwise beyond its need, no more than all need
    pub enters : (c : ℕ) → c < length w → Y c <ℤ t → (over_cut c +ℤ (rest c +ℤ need c)) ≤ℤ sum_inside (length w) (lies_below Y t) need
    enters c i h =
        let n = length w in
        let parts = sum-same n _ _ (λ k j. split (over_cut k) (rest k) (need k) (lies_below Y t k)) ∙ sum-add n (λ k.
        cond (lies_below Y t k) (over_cut k +ℤ rest k) (pos 0)) (λ k. cond (lies_below Y t k) (need k) (pos 0)) in
        let none = sum_inside-zero n (lies_below Y t) (λ k. total (whole_link Y (Y k)) (whole_at w k).links +ℤ rest k) solved in
        let one = term-le-sum n (λ k. cond (lies_below Y t k) (over_cut k +ℤ (rest k +ℤ need k)) (pos 0)) (λ k j. some k j (lies_below Y t k) refl) c i in
        omega (arith, ints, cut_links w (lies_below Y t) Y rest both, (rw (test_true (Y c) t h) at one))

-- Sums over the cells of a problem, whose terms are each limited, and terms of sums.
pub limited_sum : (g : Entries → ℕ) (p : List Entries) (F : ℕ → ℤ) (k : ℕ) → ((c : ℕ) → c < length p → F c ≤ℤ (pos (g (entries_at p c)) *ℤ pos k)) → (n : ℕ) →
    n ≤ length p → sum_below n F ≤ℤ (pos (sum_by g (take n p)) *ℤ pos k)
limited_sum g p F k each zero h = mul_nonneg (pos (sum_by g (take zero p))) (pos k) (omega (arith, ints)) (omega (arith, ints))
limited_sum g p F k each (suc n) h =
    let i : n < length p = omega arith in
    let more = subst (λ (z : ℕ). sum_by g (take z p) ≡ sum_by g (take n p) + g (entries_at p n)) (add-one n) (sum_by_more g p n no_entries i) in
    joined (sum_by g (take n p)) (g (entries_at p n)) (sum_by g (take (suc n) p)) more _ _ (limited_sum g p F k each n (omega arith)) (each n i)
  where
    joined : (a b t : ℕ) → t ≡ a + b → (x y : ℤ) → x ≤ℤ (pos a *ℤ pos k) → y ≤ℤ (pos b *ℤ pos k) → (x +ℤ y) ≤ℤ (pos t *ℤ pos k)
    joined a b t e x y p q = let split = add_mul (pos a) (pos b) (pos k) in rw e (omega (arith, ints, split))

-- an element of the left list has one of the right list that it is related to
pub AllZip-has : {X Y : Type 0} (R : X → Y → Type 0) (xs : List X) (ys : List Y) (x : X) (d : Y) → AllZip R xs ys → Contains xs x → (y : Y) × Contains ys y × R x y
AllZip-has R xs ys x d h (k, i, is) =
    let there : k < length ys = omega (arith, AllZip-length R xs ys h, i) in
    (get_or ys k d, Contains-get_or ys k d there, subst (λ z. R z (get_or ys k d)) is (AllZip-at R xs ys k x d h i))

-- a term is at most the total, where none is negative
term_at : {X : Type 0} (P : X → Type 0) (f : X → ℤ) (xs : List X) → ((x : X) → P x → pos 0 ≤ℤ f x) → All P xs → (k : ℕ) (d : X) → k < length xs → f (get_or xs k d) ≤ℤ total f xs
term_at P f [] each h k d i = absurd (omega arith)
term_at P f (x ∷ xs) each h zero d i = let b = total_nonneg P f xs each (All-tail P x xs h) in omega (arith, ints, b)
term_at P f (x ∷ xs) each h (suc k) d i = let a = each x (All-head P x xs h) in let b = term_at P f xs each (All-tail P x xs h) k d (omega arith) in omega (arith, ints, a, b)

pub term-le-total : {X : Type 0} (P : X → Type 0) (f : X → ℤ) (xs : List X) → ((x : X) → P x → pos 0 ≤ℤ f x) → All P xs → (x : X) → Contains xs x → f x ≤ℤ total f xs
term-le-total P f xs each h x (k, i, is) = subst (λ z. f z ≤ℤ total f xs) is (term_at P f xs each h k x i)
