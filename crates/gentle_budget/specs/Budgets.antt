-- The volumetric budget of a step of a model with convertible layers at its listed heads, in units of 10^-(s+9) (TM 6-A16, chapter 3): the bounds of each term,
-- or the first term that is too large. A flow into a cell by its own head is least at the upper head and greatest at the lower one.
use Rattle.std.specs.Prelude.{◌≡◌, ℕ, Bool, List, Result, Ok, Err, cond, if◌then◌else◌, map}
use Rattle.step_problem.specs.{declared.heads.Bound.Bound, declared.heads.Side.Side, declared.heads.Side.TheVariants.High, declared.heads.Side.TheVariants.Low}
use Rattle.step_problem.specs.{declared.place.Dir.Dir, declared.place.Dir.TheVariants.In, declared.place.Dir.TheVariants.Out, declared.place.NoBound.NoBound}
use Rattle.step_problem.specs.{declared.place.Term.Term, declared.place.Term.TheVariants.Storage, declared.refusal.BoundFault.BoundFault, Entries.Entries}
use Rattle.step_problem.specs.{lower_at, upper_at}
use Rattle.step_problem.specs.declared.refusal.BoundFault.TheVariants as fault
use Rattle.cell_relax.specs.{heads_on}
use Rattle.budget_bounds.specs.{declared.pair.Budget.Budget, declared.pair.TermPair.TermPair}
use Rattle.budget_bounds.specs.{all_terms, bounds_in, is_small, is_term, too_large, ◌>>=◌}
unfoldable use Rattle.budget_bounds.specs.{budget_of, parts}
use Rattle.model_types.specs.{declared.model.FlowModel.FlowModel, declared.time_steps.TimeStep.TimeStep}
use Rattle.problem_builder.specs.{bound_at}
use Rattle.water_table.specs.declared.convertible_layers.ConvertibleLayers.{ConvertibleLayers}
use Rattle.water_storage.specs.{stored_flow}
use Rattle.gentle_check.specs.{one_head}

module _ (listed : List Bound) where
  -- the listed heads of a problem's cells on a side, each as a bound
  abbrev pub side_words : Side → List Entries → List Bound
  side_words side p = map (λ e. one_head (heads_on side listed e.id)) p

  -- the budget of the problem of a side at the heads of the side; it has no storage
  abbrev pub side_budget : Side → List Entries → Result Budget NoBound
  side_budget side p = let words = side_words side p in budget_of p (lower_at words) (upper_at words)

  -- lack of memory is possible at any time
  abbrev pub HasNoSideBudget : Side → List Entries → BoundFault → Type 0
  HasNoSideBudget side p (fault.NoBound n) = side_budget side p ≡ Err n
  HasNoSideBudget side p fault.Memory = Unit {0}

-- What flows in is least at the upper heads and greatest at the lower ones, what flows out the other way round.
abbrev pub joined_pair : Dir → TermPair → TermPair → TermPair
joined_pair In low high = record { lo = high.lo; hi = low.hi }
joined_pair Out low high = record { lo = low.lo; hi = high.hi }

-- The terms of two budgets, of the lower heads and of the upper ones, and that of stored water.
abbrev pub joined_term : Budget → Budget → (Dir → TermPair) → Dir → Term → TermPair
joined_term low high stored dir t = cond (is_term t Storage) (stored dir) (joined_pair dir (bounds_in low dir t) (bounds_in high dir t))

abbrev pub joined_budget : Budget → Budget → (Dir → TermPair) → Budget
joined_budget low high stored = record { into = map (joined_term low high stored In) all_terms; out = map (joined_term low high stored Out) all_terms }

-- At a step, where `old` are the listed heads before it; p is the problem of the lower heads, q that of the upper ones. Both have the variable cells.
module _ (m : FlowModel) (w : ConvertibleLayers) (s : ℕ) (at : TimeStep) (old listed : List Bound) where
  -- The flow of stored water into a cell: the least from the lower old head to the upper head, the greatest from the upper old head to the lower head.
  abbrev pub stored_pair : ℕ → TermPair
  stored_pair c = record {
    lo = stored_flow m w s at c Low (bound_at old c) (one_head (upper_at listed c));
    hi = stored_flow m w s at c High (bound_at old c) (one_head (lower_at listed c));
  }

  -- what of stored water goes into the variable cells, or out of them
  abbrev pub storage_term : List Entries → Dir → TermPair
  storage_term p dir = parts dir (map (λ e. stored_pair e.id) p)

  -- that, or FlowTooLarge
  abbrev pub stored_or_large : List Entries → Dir → Result TermPair NoBound
  stored_or_large p dir = if is_small (storage_term p dir) then Ok (storage_term p dir) else Err (too_large dir Storage)

  -- The budget, or the first refusal: of the budget at the lower heads, of that at the upper heads, of stored water that goes in, of that
  -- which goes out.
  abbrev pub budget_at : List Entries → List Entries → Result Budget NoBound
  budget_at p q = do
    low ← side_budget listed Low p
    high ← side_budget listed High q
    into ← stored_or_large p In
    out ← stored_or_large p Out
    Ok (joined_budget low high (storage_term p))

  abbrev pub IsNoBudget : List Entries → List Entries → BoundFault → Type 0
  IsNoBudget p q (fault.NoBound n) = budget_at p q ≡ Err n
  IsNoBudget p q fault.Memory = Unit {0}
