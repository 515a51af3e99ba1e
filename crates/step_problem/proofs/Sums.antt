-- Sums of flows: how far each lies from zero, and one step of a loop that makes them.
use Rattle.step_problem.proofs.Common.{◌≡◌, refl, ℕ, suc, ◌+◌, ◌*◌, ◌^◌, ◌<◌, ◌≤◌, ap, arith, ℤ, pos, negsuc, ◌+ℤ◌, ◌-ℤ◌, ◌*ℤ◌, List, length, get_or, min, take, drop, sum_by, FitsSigned, w128}
use Rattle.step_problem.proofs.Common.{at_drop_more, get_or-map, mul-le-mul, mul-le-mul_right, ints, clamps, Link, ends_in, neg_ℤ, int_max, link_at, branch_flow, link_flow, river_flow, deep_river}
use Rattle.step_problem.proofs.Common.{head_limit, total, IsMagnitudeAtMost, RiverFits, Side, Low, High}
use Rattle.step_problem.specs.declared.entry.River.{River}
use Rattle.std.proofs.lemmas.List.Sums.{sum_by_more, sum_by-take-le}

pub IsWithin-add : (a b : ℤ) (m n k : ℕ) → IsMagnitudeAtMost a m → IsMagnitudeAtMost b n → m + n ≤ k → IsMagnitudeAtMost (a +ℤ b) k
IsWithin-add a b m n k p q r = record { above = omega (arith, ints); below = omega (arith, ints) }

pub IsWithin-product : (c top m : ℕ) (d : ℤ) → c ≤ top → IsMagnitudeAtMost d m → IsMagnitudeAtMost (pos c *ℤ d) (top * m)
IsWithin-product c top m (pos n) o w = let le : n ≤ m = omega (arith, ints) in let h : c * n ≤ top * m = mul-le-mul o le in record { above = omega (arith, ints); below = omega (arith, ints) }
IsWithin-product c top m (negsuc n) o w = let le : suc n ≤ m = omega (arith, ints) in let h : c * suc n ≤ top * m = mul-le-mul o le in record {
  above =
      omega (arith, ints);
  below = omega (arith, ints);
}

pub FitsSigned-within : (z : ℤ) (b : ℕ) → IsMagnitudeAtMost z b → b < 2 ^ 127 → FitsSigned w128 z
FitsSigned-within z b w h = omega (arith, ints)

-- one more term goes from the rest into the sum so far
pub total_step : {X : Type 0} (f : X → ℤ) (xs : List X) (i : ℕ) (d x : X) (s t whole : ℤ) → i < length xs → x ≡ get_or xs i d → s +ℤ total f (drop i xs) ≡
    whole → t ≡ f x → (s +ℤ t) +ℤ total f (drop (i + 1) xs) ≡ whole
total_step f xs i d x s t whole h is e r = let more : total f (drop i xs) ≡ f (get_or xs i d) +ℤ total f (drop (i + 1) xs) = at_drop_more (total f) xs i d h in omega (arith, ints, more, e, r, ap f is)

-- the sum of one more term stays within the weights so far
pub within_step : {X : Type 0} (g : X → ℕ) (xs : List X) (i m : ℕ) (d x : X) (s t : ℤ) → i < length xs → x ≡ get_or xs i d →
    IsMagnitudeAtMost s (sum_by g (take i xs) * m) → IsMagnitudeAtMost t (g x * m) → IsMagnitudeAtMost (s +ℤ t) (sum_by g (take (i + 1) xs) * m)
within_step g xs i m d x s t h is p q = let same : g x * m ≡ g (get_or xs i d) * m = ap (λ y. g y * m) is in rw (sum_by_more g xs i d h) (IsWithin-add s t _ _ _ p q (omega (arith, same)))

-- a sum over part of a list stays below what the weights of the whole list allow
pub FitsSigned-part : {X : Type 0} (g : X → ℕ) (xs : List X) (i m : ℕ) (z : ℤ) → sum_by g xs * m < 2 ^ 123 → IsMagnitudeAtMost z (sum_by g (take i xs) * m) → FitsSigned w128 z
FitsSigned-part g xs i m z h w = let le : sum_by g (take i xs) * m ≤ sum_by g xs * m = mul-le-mul_right m (sum_by-take-le g xs i) in FitsSigned-within z
    (sum_by g (take i xs) * m) w (omega (arith, le, h))

-- the flow over a link, with the head that is listed for its other end
pub link_flow_is : (side : Side) (h : ℕ → ℤ) (own : ℤ) (links : List Link) (values : List ℤ) (i : ℕ) (t : ℤ) → ends_in h links ≡ values → i < length links → t ≡
    branch_flow side (link_at links i).lo (link_at links i).hi (get_or values i (pos 0) -ℤ own) → t ≡ link_flow side h own (link_at links i)
link_flow_is side h own links values i t e lt r = grind (arith, get_or-map)

-- a river's flow at the least head is its deep flow
pub deep_is : (side : Side) (x : River) → RiverFits x → river_flow side (neg_ℤ (pos head_limit)) x ≡ deep_river side x
deep_is Low x fits = let deep : int_max (neg_ℤ (pos head_limit)) x.bottom_hi ≡ x.bottom_hi = omega (arith, ints, clamps, fits.bottom_hi.above) in rw deep refl
deep_is High x fits = let deep : int_max (neg_ℤ (pos head_limit)) x.bottom_lo ≡ x.bottom_lo = omega (arith, ints, clamps, fits.bottom_lo.above) in rw deep refl

-- one more size goes into a sum that stops at a cap
pub capped_more : {X : Type 0} (g : X → ℕ) (xs : List X) (i cap : ℕ) (d x : X) (s t u : ℕ) → i < length xs → x ≡ get_or xs i d → s ≡
    min (sum_by g (take i xs)) cap → t ≡ g x → u ≡ min (s + t) cap → u ≡ min (sum_by g (take (i + 1) xs)) cap
capped_more g xs i cap d x s t u h is so_far here more = grind (arith, sum_by_more)
