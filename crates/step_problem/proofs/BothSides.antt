-- The lower and the upper side of a problem are sides.
use Rattle.step_problem.proofs.Common.{ℕ, ◌<◌, arith, ℤ, ◌≤ℤ◌, List, length, ints, All, All-weaker, Link, Entries, entries_at, IsProblem, Ge, CanRise, CanSink, pos, neg_ℤ, ◌+ℤ◌, ◌-ℤ◌, ◌<ℤ◌, clamps}
use Rattle.step_problem.proofs.Common.{by_lt_z, int_min, int_max, IsHead, head_limit, AreHeads, IsSettled, LowerShifts, UpperShifts, Low, High}
use Rattle.step_problem.proofs.{Falls.balance_rises, Falls.balance_moves, Sides.IsSide}
pub use Rattle.decimal_input.proofs.FloorLaws.{le-trans as le_trans, le-antisym as le_anti}

pub le_refl : (x : ℤ) → x ≤ℤ x
le_refl x = omega (arith, ints)

-- a fact of each cell of the problem holds at the other end of each link
pub at_ends : (P : ℕ → Type 0) (p : List Entries) → IsProblem p → ((c : ℕ) → c < length p → P c) → (c : ℕ) → c < length p → All (λ x. P x.cell) (entries_at p c).links
at_ends P p ok each c h = All-weaker (λ (x : Link). x.cell < length p) (λ (x : Link). P x.cell) (λ x i. each x.cell i) (entries_at p c).links (ok.links c h).within

pub low_side : (p : List Entries) → IsProblem p → IsSide ◌≤ℤ◌ (CanRise p) (length p)
low_side p ok = record {
  refl = le_refl;
  trans = le_trans;
  anti = le_anti;
  helps = λ c v l m h up can. le_trans _ _ _ can (balance_rises Low (entries_at p c) v l m (at_ends (λ k. l k ≤ℤ m k) p ok up c h));
}

pub high_side : (p : List Entries) → IsProblem p → IsSide Ge (CanSink p) (length p)
high_side p ok = record {
  refl = le_refl;
  trans = λ x y z a b. le_trans z y x b a;
  anti = λ x y a b. le_anti x y b a;
  helps = λ c v l m h up can. le_trans _ _ _ (balance_rises High (entries_at p c) v m l (at_ends (λ k. m k ≤ℤ l k) p ok up c h)) can;
}

-- A shift of all heads by so many units: balances get no better, so settled heads stay settled.
pub lower_shifts : LowerShifts
lower_shifts c k v w h g up ends =
    balance_moves Low c v w g h (omega (arith, ints)) (λ i d lt. omega (arith, ints, ends i d lt))

pub upper_shifts : UpperShifts
upper_shifts c k v w h g down ends =
    balance_moves High c w v h g (omega (arith, ints)) (λ i d lt. omega (arith, ints, ends i d lt))

-- a head so many units tighter, cut at the end of the range
abbrev pub raised : ℕ → ℤ → ℤ
raised k x = int_min (x +ℤ pos k) (pos head_limit)

abbrev pub sunk : ℕ → ℤ → ℤ
sunk k x = int_max (x -ℤ pos k) (neg_ℤ (pos head_limit))

raised_at_most : (k : ℕ) (x : ℤ) → raised k x ≤ℤ (x +ℤ pos k)
raised_at_most k x = omega (arith, ints, clamps)

sunk_at_least : (k : ℕ) (x : ℤ) → (x -ℤ pos k) ≤ℤ sunk k x
sunk_at_least k x = omega (arith, ints, clamps)

pub raised_reaches : (k : ℕ) (v x : ℤ) → v ≤ℤ pos head_limit → (v -ℤ pos k) ≤ℤ x → v ≤ℤ raised k x
raised_reaches k v x a b = omega (arith, ints, clamps)

pub sunk_reaches : (k : ℕ) (v x : ℤ) → neg_ℤ (pos head_limit) ≤ℤ v → x ≤ℤ (v +ℤ pos k) → sunk k x ≤ℤ v
sunk_reaches k v x a b = omega (arith, ints, clamps)

back_up : (v k : ℤ) → ((v -ℤ k) +ℤ k) ≤ℤ v
back_up v k = omega (arith, ints)

back_down : (v k : ℤ) → v ≤ℤ ((v +ℤ k) -ℤ k)
back_down v k = omega (arith, ints)

-- a head so many units back, where that is a head
lower_head : (v : ℤ) (k : ℕ) → IsHead v → neg_ℤ (pos head_limit) ≤ℤ (v -ℤ pos k) → IsHead (v -ℤ pos k)
lower_head v k head far = record { above = far; below = omega (arith, ints, head.below) }

higher_head : (v : ℤ) (k : ℕ) → IsHead v → (v +ℤ pos k) ≤ℤ pos head_limit → IsHead (v +ℤ pos k)
higher_head v k head far = record { above = omega (arith, ints, head.above); below = far }

-- lower heads that are settled stay so when all are raised by so many units
pub raised_settled : (p : List Entries) → IsProblem p → (k : ℕ) (m : ℕ → ℤ) → AreHeads ◌≤ℤ◌ (CanRise p) (length p) m → IsSettled ◌≤ℤ◌ (CanRise p) (length p) m →
    IsSettled ◌≤ℤ◌ (CanRise p) (length p) (λ c. raised k (m c))
raised_settled p ok k m heads settled c h v head can = raised_reaches k v (m c) head.below (by_lt_z (v -ℤ pos k) (neg_ℤ (pos head_limit)) out within)
  where
    out : (v -ℤ pos k) <ℤ neg_ℤ (pos head_limit) → (v -ℤ pos k) ≤ℤ m c
    out a = omega (arith, ints, a, (heads c h).above)

    within : neg_ℤ (pos head_limit) ≤ℤ (v -ℤ pos k) → (v -ℤ pos k) ≤ℤ m c
    within a = settled c h (v -ℤ pos k) (lower_head v k head a)
        (le_trans _ _ _ can (lower_shifts (entries_at p c) k v (v -ℤ pos k) m (λ d. raised k (m d)) (back_up v (pos k))
        (at_ends (λ d. raised k (m d) ≤ℤ (m d +ℤ pos k)) p ok (λ d i. raised_at_most k (m d)) c h)))

-- and upper heads when all are sunk
pub sunk_settled : (p : List Entries) → IsProblem p → (k : ℕ) (m : ℕ → ℤ) → AreHeads Ge (CanSink p) (length p) m → IsSettled Ge (CanSink p) (length p) m →
    IsSettled Ge (CanSink p) (length p) (λ c. sunk k (m c))
sunk_settled p ok k m heads settled c h v head can = sunk_reaches k v (m c) head.above (by_lt_z (pos head_limit) (v +ℤ pos k) out within)
  where
    out : pos head_limit <ℤ (v +ℤ pos k) → m c ≤ℤ (v +ℤ pos k)
    out a = omega (arith, ints, a, (heads c h).below)

    within : (v +ℤ pos k) ≤ℤ pos head_limit → m c ≤ℤ (v +ℤ pos k)
    within a = settled c h (v +ℤ pos k) (higher_head v k head a)
        (le_trans _ _ _ (upper_shifts (entries_at p c) k v (v +ℤ pos k) m (λ d. sunk k (m d)) (back_down v (pos k))
        (at_ends (λ d. (m d -ℤ pos k) ≤ℤ sunk k (m d)) p ok (λ d i. sunk_at_least k (m d)) c h)) can)
