-- The times of a model are steps of its stress periods.
use Rattle.listing_io.proofs.Common.{ℕ, zero, suc, ◌+◌, ◌≤◌, All, List, [], ◌∷◌, ◌++◌, length, map, arith, AllByRecursion, flat_map, range_with_len, All-from_recursion, FlowModel, TimeStep, period_at}
use Rattle.listing_io.proofs.Common.{steps_of, times}

module _ (m : FlowModel) where
  abbrev IsWithin : TimeStep → Type 0
  IsWithin at = at.period ≤ length m.periods

  appended : (xs ys : List TimeStep) → AllByRecursion IsWithin xs → AllByRecursion IsWithin ys → AllByRecursion IsWithin (xs ++ ys)
  appended [] ys h k = k
  appended (x ∷ xs) ys h k = (h.0, appended xs ys h.1 k)

  of_period : (p : ℕ) (ns : List ℕ) → p ≤ length m.periods → AllByRecursion IsWithin (map (λ n. record { period = p; step = n }) ns)
  of_period p [] h = tt
  of_period p (n ∷ ns) h = (h, of_period p ns h)

  of_periods : (first count : ℕ) → first + count ≤ length m.periods + 1 → AllByRecursion IsWithin (flat_map (steps_of m) (range_with_len first count))
  of_periods first zero h = tt
  of_periods first (suc count) h = appended (steps_of m first) (flat_map (steps_of m) (range_with_len (first + 1) count))
      (of_period first (range_with_len 1 (period_at m first).nstp) (omega (arith, h))) (of_periods (first + 1) count (omega (arith, h)))

  pub times_within : All IsWithin (times m)
  unfolding times
  times_within = All-from_recursion IsWithin (flat_map (steps_of m) (range_with_len 1 (length m.periods))) (of_periods 1 (length m.periods) (omega arith))
