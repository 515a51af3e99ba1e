-- Both sides of a problem, by one variable.
use Rattle.cell_relax.proofs.Common.{◌≡◌, ℕ, ◌<◌, ◌⊎◌, inl, inr, arith, sym, subst, List, length, ℤ, ints, by_lt_z, Side, Low, High, Entries, IsHead, IsProblem, low_side, high_side, heads_on}
use Rattle.cell_relax.proofs.Common.{IsAsTight, Moves, other, clamps, tighter_of, AreWords}
use Rattle.step_problem.specs.declared.heads.Bound.{Bound}
use Rattle.step_problem.proofs.Sides.{IsSide}

pub is_side : (side : Side) (p : List Entries) → IsProblem p → IsSide (IsAsTight side) (Moves side p) (length p)
is_side Low p ok = low_side p ok
is_side High p ok = high_side p ok

-- what holds on a side and on the other holds on each
pub each_side : (side : Side) (P : Side → Type 0) → P side → P (other side) → (s : Side) → P s
each_side Low P here there Low = here
each_side Low P here there High = there
each_side High P here there Low = there
each_side High P here there High = here

-- the tighter of two heads
pub tighter_first : (side : Side) (x y : ℤ) → IsAsTight side x (tighter_of side x y)
tighter_first Low x y = omega (arith, ints, clamps)
tighter_first High x y = omega (arith, ints, clamps)

pub tighter_second : (side : Side) (x y : ℤ) → IsAsTight side y (tighter_of side x y)
tighter_second Low x y = omega (arith, ints, clamps)
tighter_second High x y = omega (arith, ints, clamps)

pub tighter_is_one : (side : Side) (x y : ℤ) → (tighter_of side x y ≡ x) ⊎ (tighter_of side x y ≡ y)
tighter_is_one Low x y = by_lt_z x y (λ h. inr (omega (arith, ints, clamps))) (λ h. inl (omega (arith, ints, clamps)))
tighter_is_one High x y = by_lt_z x y (λ h. inl (omega (arith, ints, clamps))) (λ h. inr (omega (arith, ints, clamps)))

pub tighter_head : (side : Side) (x y : ℤ) → IsHead x → IsHead y → IsHead (tighter_of side x y)
tighter_head side x y p q = elim (tighter_is_one side x y) [ inl e ↦ subst IsHead (sym e) p | inr e ↦ subst IsHead (sym e) q ]

-- the heads of words in range
pub heads_in_range : (side : Side) (p : List Entries) (words : List Bound) → AreWords p words → (c : ℕ) → c < length p → IsHead (heads_on side words c)
heads_in_range Low p words w = w.low
heads_in_range High p words w = w.high
