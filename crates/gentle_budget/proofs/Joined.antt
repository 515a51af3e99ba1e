-- Bounds at both listed heads, and what lies between.
use Rattle.gentle_budget.proofs.Common.{◌≡◌, ℕ, ℤ, Result, Ok, Err, refl, EnclosesSigned, Fraction, Dir, In, Out, Term, ConstantHead, Drains, Et, HeadDepBounds, Recharge, RiverLeakage, Storage, Wells}
use Rattle.gentle_budget.proofs.Common.{TermPair, Budget, bounds_in, ◌>>=◌, InOrder, joined_budget, joined_pair, joined_term, ◌^◌, arith, NoBound}
use Rattle.decimal_input.specs.Fractions.{AtMost, den}
use Rattle.decimal_input.proofs.FloorLaws.{cross_trans_signed}

-- f lies between what its lower and its upper bound are bounds of
between : (lo hi lo' hi' : ℤ) (k : ℕ) (low f high : Fraction) → EnclosesSigned lo hi' k low → EnclosesSigned lo' hi k high → AtMost low f → AtMost f high → EnclosesSigned lo hi k f
between lo hi lo' hi' k low f high p q below above = record {
  lower = cross_trans_signed lo low.num f.num (10 ^ k) (den low) (den f) (omega arith) p.lower below.at_most;
  upper = cross_trans_signed f.num high.num hi (den f) (den high) (10 ^ k) (omega arith) above.at_most q.upper;
}

-- joined bounds hold for what lies between
pub joined_holds : (dir : Dir) (low high : TermPair) (k : ℕ) (L f U : Fraction) → EnclosesSigned low.lo low.hi k L → EnclosesSigned high.lo high.hi k U → InOrder dir U f →
    InOrder dir f L → EnclosesSigned (joined_pair dir low high).lo (joined_pair dir low high).hi k f
joined_holds In low high k L f U p q upper lower = between high.lo low.hi low.lo high.hi k U f L q p upper lower
joined_holds Out low high k L f U p q upper lower = between low.lo high.hi high.lo low.hi k L f U p q lower upper

-- each term of a joined budget
pub joined_bounds : (low high : Budget) (stored : Dir → TermPair) (dir : Dir) (t : Term) → bounds_in (joined_budget low high stored) dir t ≡ joined_term low high stored dir t
joined_bounds low high stored In Storage = refl
joined_bounds low high stored In ConstantHead = refl
joined_bounds low high stored In Wells = refl
joined_bounds low high stored In Drains = refl
joined_bounds low high stored In RiverLeakage = refl
joined_bounds low high stored In HeadDepBounds = refl
joined_bounds low high stored In Recharge = refl
joined_bounds low high stored In Et = refl
joined_bounds low high stored Out Storage = refl
joined_bounds low high stored Out ConstantHead = refl
joined_bounds low high stored Out Wells = refl
joined_bounds low high stored Out Drains = refl
joined_bounds low high stored Out RiverLeakage = refl
joined_bounds low high stored Out HeadDepBounds = refl
joined_bounds low high stored Out Recharge = refl
joined_bounds low high stored Out Et = refl

-- the first part of a chain that gives a budget, and the rest of it
pub passed_on : {A : Type 0} (x : Result A NoBound) (f : A → Result Budget NoBound) (b : Budget) → (x >>= f) ≡ Ok b → (a : A) × (x ≡ Ok a) × (f a ≡ Ok b)
passed_on (Ok a) f b e = (a, refl, e)
passed_on (Err r) f b e = absurd cc
