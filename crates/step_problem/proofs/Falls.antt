-- A balance falls weakly in its own head and rises weakly in the heads at the other ends.
use Rattle.step_problem.proofs.Common.{ℕ, arith, ℤ, pos, neg_ℤ, ◌+ℤ◌, ◌-ℤ◌, ◌*ℤ◌, ◌≤ℤ◌, List, [], ◌∷◌, get_or, ints, clamps, All, All-head, All-tail, Link, Entries, total, FallsInOwnHead}
use Rattle.step_problem.proofs.Common.{RisesInOtherHeads, branch_flow, flow_bound, link_flow, fixed_flow, river_flow, drain_flow, evap_flow, balance, Side, Low, High}
use Rattle.step_problem.proofs.Leasts.{mul_mono, least_rises, most_rises}

-- sums of terms none of which is greater, for each element of the list, or for each that there is
pub total_mono_all : {X : Type 0} (f g : X → ℤ) (xs : List X) → All (λ x. f x ≤ℤ g x) xs → total f xs ≤ℤ total g xs
total_mono_all f g [] each = omega (arith, ints)
total_mono_all f g (x ∷ xs) each =
    let a = All-head (λ y. f y ≤ℤ g y) x xs each in
    let b = total_mono_all f g xs (All-tail (λ y. f y ≤ℤ g y) x xs each) in
    omega (arith, ints, a, b)

pub total_mono : {X : Type 0} (f g : X → ℤ) (xs : List X) → ((x : X) → f x ≤ℤ g x) → total f xs ≤ℤ total g xs
total_mono f g xs each = total_mono_all f g xs (λ i d h. each (get_or xs i d))

-- what a conductance takes away against a growing head falls
pub loss_falls : (k : ℕ) (a b : ℤ) → a ≤ℤ b → neg_ℤ (pos k *ℤ b) ≤ℤ neg_ℤ (pos k *ℤ a)
loss_falls k a b h = omega (arith, ints, mul_mono k a b h)

pub six : (f a b c d e a' b' c' d' e' : ℤ) → a ≤ℤ a' → b ≤ℤ b' → c ≤ℤ c' → d ≤ℤ d' → e ≤ℤ e' → (f +ℤ a +ℤ b +ℤ c +ℤ d +ℤ e) ≤ℤ (f +ℤ a' +ℤ b' +ℤ c' +ℤ d' +ℤ e')
six f a b c d e a' b' c' d' e' p q r s t = omega (arith, ints)

-- heads at the other ends that are no lower than they were, seen from the cell's own head
abbrev EndsRise : (v w : ℤ) (g h : ℕ → ℤ) → List Link → Type 0
EndsRise v w g h links = All (λ x. (g x.cell -ℤ v) ≤ℤ (h x.cell -ℤ w)) links

branch_rises : (side : Side) (lo hi : ℕ) (a b : ℤ) → a ≤ℤ b → branch_flow side lo hi a ≤ℤ branch_flow side lo hi b
branch_rises Low = least_rises
branch_rises High = most_rises

-- where a cell's own head is no higher, and the heads at the other ends are so, no flow is less
pub balance_moves : (side : Side) (c : Entries) (v w : ℤ) (g h : ℕ → ℤ) → w ≤ℤ v → EndsRise v w g h c.links → balance side c v g ≤ℤ balance side c w h
balance_moves side c v w g h le ends =
    six (total (flow_bound side) c.flows) _ _ _ _ _ _ _ _ _ _
    (total_mono_all (link_flow side g v) (link_flow side h w) c.links (λ i d lt. branch_rises side _ _ _ _ (ends i d lt)))
    (total_mono (fixed_flow side v) (fixed_flow side w) c.fixed (λ x. branch_rises side x.lo x.hi _ _ (omega (arith, ints))))
    (total_mono (river_flow side v) (river_flow side w) c.rivers (λ x. branch_rises side x.lo x.hi _ _ (omega (arith, ints, clamps))))
    (total_mono (drain_flow side v) (drain_flow side w) c.drains (λ x. branch_rises side x.lo x.hi _ _ (omega (arith, ints, clamps))))
    (total_mono (evap_flow side v) (evap_flow side w) c.evaps (λ x. branch_rises side x.lo x.hi _ _ (omega (arith, ints, clamps))))

pub balance_falls : (side : Side) → FallsInOwnHead (balance side)
balance_falls side c h v w le = balance_moves side c w v h h le (λ i d lt. omega (arith, ints, le))

pub balance_rises : (side : Side) → RisesInOtherHeads (balance side)
balance_rises side c v h k each = balance_moves side c v v h k (omega (arith, ints)) (λ i d lt. omega (arith, ints, each i d lt))
