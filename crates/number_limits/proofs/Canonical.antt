-- Numbers of arrays are canonical.
use Rattle.number_limits.proofs.Common.{ℕ, List, All, length, inl, inr, refl, sym, subst, arith, cases_lt, ints, Dec, IsDec, dec_at, no_number}
use Rattle.std.proofs.lemmas.List.{get_or_past}

pub no_number_is : IsDec no_number
no_number_is = record { few = omega arith; form = inl (refl, refl, refl); above = omega (arith, ints); below = omega (arith, ints) }

pub dec_at_is : (xs : List Dec) (k : ℕ) → All IsDec xs → IsDec (dec_at xs k)
dec_at_is xs k h = elim (cases_lt k (length xs)) [
  | inl within ↦ h k no_number within
  | inr past ↦ subst IsDec (sym (get_or_past xs k no_number past)) no_number_is
]
