-- The least deep flow of a cell is at most the exact one.
use Rattle.cell_balance.proofs.Common.{ℕ, ◌*◌, arith, ℤ, pos, negsuc, ◌+ℤ◌, ◌-ℤ◌, ◌*ℤ◌, ◌≤ℤ◌, unsigned_abs, ◌≡◌, refl, neg_ℤ, List, [], ◌∷◌, All, int_max, ints, clamps, River, Evap, Entries, total}
use Rattle.cell_balance.proofs.Common.{branch_flow, bound_on, IsBetweenSigned, deep_low, mul_mono_right, zero-*ℤ, Low, High, All-head, All-tail, diffs, as_diff, same_diff, mul_mono, least_times}
use Rattle.cell_balance.proofs.Common.{most_times, AllZip, IsBetweenWhole, Side, deep_river, total_mono_all}
use Rattle.step_problem.specs.{full_rate}
use Rattle.cell_balance.proofs.Scaling.{max_times}
use Rattle.cell_balance.proofs.Zips.{WholeEntry, WholeCell, whole_deep_river, whole_full, whole_deep, FlowWithin, RiverWithin, EvapWithin, CellWithin}
pub use Rattle.decimal_input.proofs.FloorLaws.{add_times as add_mul, le-trans as le_trans_z}
pub use Rattle.step_problem.proofs.BothSides.{le_refl as same_z}

-- Sums over lists that are related place by place.
pub sub_mul : (a b k : ℤ) → (a -ℤ b) *ℤ k ≡ a *ℤ k -ℤ b *ℤ k
sub_mul a b k = rw (as_diff a, as_diff b, as_diff k) (simp diffs (same_diff _ _ _ _ (omega arith)))

-- sums of terms that hold the same place or sign
pub total-same : {X : Type 0} (P : X → Type 0) (f g : X → ℤ) (xs : List X) → ((x : X) → P x → f x ≡ g x) → All P xs → total f xs ≡ total g xs
total-same P f g [] each h = refl
total-same P f g (x ∷ xs) each h = rw (each x (All-head P x xs h), total-same P f g xs each (All-tail P x xs h)) refl

pub total_nonneg : {X : Type 0} (P : X → Type 0) (f : X → ℤ) (xs : List X) → ((x : X) → P x → pos 0 ≤ℤ f x) → All P xs → pos 0 ≤ℤ total f xs
total_nonneg P f [] each h = omega (arith, ints)
total_nonneg P f (x ∷ xs) each h = let a = each x (All-head P x xs h) in let b = total_nonneg P f xs each (All-tail P x xs h) in omega (arith, ints, a, b)

pub total_at_most : {X : Type 0} (P : X → Type 0) (f g : X → ℤ) (xs : List X) → ((x : X) → P x → f x ≤ℤ g x) → All P xs → total f xs ≤ℤ total g xs
total_at_most P f g xs each h = total_mono_all f g xs (λ k d i. each _ (h k d i))

pub total_neg : {X : Type 0} (f : X → ℤ) (xs : List X) → total (λ x. neg_ℤ (f x)) xs ≡ neg_ℤ (total f xs)
total_neg f [] = refl
total_neg f (x ∷ xs) = rw (total_neg f xs) (omega (arith, ints))

-- Bounds of exact numbers on a side: on the low side at most the number, on the high side at least. What products and sums pass on.
-- a bounds b on the side
abbrev pub Bounds : Side → ℤ → ℤ → Type 0
Bounds Low a b = a ≤ℤ b
Bounds High a b = b ≤ℤ a

-- the bound on a side of a number that is known by bounds, and its other bound
pub bound_bounds : (side : Side) (lo hi : ℤ) (n : ℕ) (z : ℤ) → IsBetweenSigned lo hi n z → Bounds side (bound_on side lo hi *ℤ pos n) z
bound_bounds Low lo hi n z b = b.lower
bound_bounds High lo hi n z b = b.upper

pub bounds_other : (side : Side) (lo hi : ℤ) (n : ℕ) (z : ℤ) → IsBetweenSigned lo hi n z → Bounds side z (bound_on side hi lo *ℤ pos n)
bounds_other Low lo hi n z b = b.upper
bounds_other High lo hi n z b = b.lower

-- the flow over a conductance and a difference of heads that are known by bounds
pub entry_bounds : (side : Side) (lo hi c m n : ℕ) (d e : ℤ) → IsBetweenWhole lo hi m c → Bounds side (d *ℤ pos n) e → Bounds side (branch_flow side lo hi d *ℤ pos (m * n)) (pos c *ℤ e)
entry_bounds Low lo hi c m n d e b h = le_trans_z _ _ _ (least_times lo hi c m n d b.lower b.upper) (mul_mono c _ _ h)
entry_bounds High lo hi c m n d e b h = le_trans_z _ _ _ (mul_mono c _ _ h) (most_times lo hi c m n d b.lower b.upper)

pub bounds_trans : (side : Side) (a b c : ℤ) → Bounds side a b → Bounds side b c → Bounds side a c
bounds_trans Low a b c h k = le_trans_z a b c h k
bounds_trans High a b c h k = le_trans_z c b a k h

pub bounds_same : (side : Side) (a : ℤ) → Bounds side a a
bounds_same Low a = omega (arith, ints)
bounds_same High a = omega (arith, ints)

bounds_none : (side : Side) (k : ℤ) → Bounds side (pos 0 *ℤ k) (pos 0)
bounds_none Low k = rw zero-*ℤ (omega (arith, ints))
bounds_none High k = rw zero-*ℤ (omega (arith, ints))

bounds_sum : (side : Side) (a b k c d : ℤ) → Bounds side (a *ℤ k) c → Bounds side (b *ℤ k) d → Bounds side ((a +ℤ b) *ℤ k) (c +ℤ d)
bounds_sum Low a b k c d h j = rw add_mul (omega (arith, ints, h, j))
bounds_sum High a b k c d h j = rw add_mul (omega (arith, ints, h, j))

-- where each left term, scaled, bounds the right one, so does the sum
module _ {X Y : Type 0} (side : Side) (R : X → Y → Type 0) (f : X → ℤ) (k : ℤ) (g : Y → ℤ) (each : (x : X) (y : Y) → R x y → Bounds side (f x *ℤ k) (g y)) where
  pub total_bounds : (xs : List X) (ys : List Y) → AllZip R xs ys → Bounds side (total f xs *ℤ k) (total g ys)
  total_bounds [] [] h = bounds_none side k
  total_bounds (x ∷ xs) (y ∷ ys) h = bounds_sum side (f x) (total f xs) k (g y) (total g ys) (each x y h.0) (total_bounds xs ys h.1)
  total_bounds _ _ h = absurd h

deep_river_less : (m n : ℕ) (p : River) (x : WholeEntry) → RiverWithin m n p x → (deep_river Low p *ℤ pos (m * n)) ≤ℤ whole_deep_river x
deep_river_less m n p x r = entry_bounds Low p.lo p.hi x.c m n _ _ r.c (rw sub_mul (omega (arith, ints, r.top.lower, r.foot.upper)))

max_abs : (z : ℤ) → int_max z (pos 0) ≤ℤ pos (unsigned_abs z)
max_abs (pos n) = omega (arith, ints, clamps)
max_abs (negsuc n) = omega (arith, ints, clamps)

full_within : (m n : ℕ) (p : Evap) (x : WholeEntry) → EvapWithin m n p x → whole_full x ≤ℤ (pos (full_rate p) *ℤ pos (m * n))
full_within m n p x r =
    let wet : int_max (x.top -ℤ x.foot) (pos 0) ≤ℤ (int_max (p.surf_hi -ℤ p.ext_lo) (pos 0) *ℤ pos n) = rw (max_times, sub_mul, zero-*ℤ) (omega (arith, ints, clamps, r.top.upper, r.foot.lower)) in
    entry_bounds High p.lo p.hi x.c m n (pos (unsigned_abs (p.surf_hi -ℤ p.ext_lo))) (int_max (x.top -ℤ x.foot) (pos 0)) r.c
    (le_trans_z _ _ _ wet (mul_mono_right n _ _ (max_abs (p.surf_hi -ℤ p.ext_lo))))

pub deep_less : (m n cells : ℕ) (p : Entries) (w : WholeCell) → CellWithin m n cells p w → (deep_low p *ℤ pos (m * n)) ≤ℤ whole_deep w
deep_less m n cells p w e =
    three _ _ _ (pos (m * n)) _ _ _
    (total_bounds Low (FlowWithin m n) (λ x. x.lo) (pos (m * n)) (λ q. q) (λ p q r. r.flow.lower) p.flows w.flows e.flows)
    (total_bounds Low (RiverWithin m n) (deep_river Low) (pos (m * n)) whole_deep_river (deep_river_less m n) p.rivers w.rivers e.rivers)
    (total_bounds High (EvapWithin m n) (λ x. pos (full_rate x)) (pos (m * n)) whole_full (full_within m n) p.evaps w.evaps e.evaps)
  where
    three : (a b g k c d f : ℤ) → (a *ℤ k) ≤ℤ c → (b *ℤ k) ≤ℤ d → f ≤ℤ (g *ℤ k) → ((a +ℤ b -ℤ g) *ℤ k) ≤ℤ (c +ℤ d -ℤ f)
    three a b g k c d f h i j = rw (sub_mul (a +ℤ b) g k, add_mul a b k) (omega (arith, ints))
