-- The worked steps: the balance of a cell with a river and a well, and of two linked cells, and the heads at which they are zero.
use Rattle.exact_solutions.proofs.Common.{◌≡◌, ◌*◌, ◌<◌, ◌∙◌, ◌+ℤ◌, ◌-ℤ◌, ◌*ℤ◌, ◌≤ℤ◌, [], ◌∷◌, ℕ, zero, suc, refl, sym, ap, arith, ℤ, pos, neg_ℤ, List, int_max, AllZip, ints, clamps, Same, whole}
use Rattle.exact_solutions.proofs.Common.{IsOver, share, SolvesStep, whole_solves, CellOver, add_mul, sub_mul, WholeCell, whole_at, whole_balance, mul_mono_right, last_factors_swap, HasNoneOrMany}
use Rattle.exact_solutions.proofs.Common.{river_and_well, two_cells, WellPastDeepFlow, WellWithinDeepFlow, WellOfDeepFlow, TwoLooseCells, neg_mul}
use Rattle.exact_solutions.proofs.{HeldSteps.crossed_same, HeldSteps.same_crossed, WholeSolutions.share_is_over, WholeSolutions.whole_balances_solve}

-- a whole number over d
whole_over : (d : ℕ) (z : ℤ) → IsOver d (whole z) (z *ℤ pos d)
whole_over d z = record { is = omega (arith, ints) }

whole_flow_over : (d : ℕ) (z : ℤ) → IsOver (1 * d) (whole z) (z *ℤ pos d)
whole_flow_over d z = grind (arith, whole_over)

-- two heads one apart are not the same number
one_apart : (d : ℕ) (x y : ℤ) → 0 < d → y ≡ x +ℤ pos 1 → Same (share d x) (share d y) → ⊥
one_apart d x y some e same = differ (same_crossed d d x y some some same)
  where
    differ : x *ℤ pos d ≡ y *ℤ pos d → ⊥
    differ h = omega (arith, ints, h ∙ ap (λ (z : ℤ). z *ℤ pos d) e ∙ ring x (pos d))
      where
        ring : (x d : ℤ) → (x +ℤ pos 1) *ℤ d ≡ x *ℤ d +ℤ d
        ring x d = rw (add_mul x (pos 1) d) (omega (arith, ints))

-- the river gives 5 less the greater of the head and its bottom, and the well takes its share
abbrev IsBalanced : ℕ → ℕ → ℤ → Type 0
IsBalanced taken d x = int_max x (pos 0) +ℤ pos taken *ℤ pos d ≡ pos 5 *ℤ pos d

abbrev river_whole : ℕ → ℕ → List WholeCell
river_whole taken d = record {
  flows = (neg_ℤ (pos taken) *ℤ pos d) ∷ [];
  links = [];
  fixed = [];
  rivers =
      record { c = 1; top = pos 5 *ℤ pos d; foot = pos 0 *ℤ pos d } ∷ [];
  drains = [];
  evaps = [];
} ∷ []

river_over : (taken d : ℕ) → AllZip (CellOver 1 d) (river_and_well taken) (river_whole taken d)
river_over taken d = grind (arith, whole_flow_over, whole_over)

river_balance : (taken d : ℕ) (X : ℕ → ℤ) → 0 < d → SolvesStep (river_and_well taken) d X → IsBalanced taken d (X 0)
river_balance taken d X some solves = omega (
  arith,
  ints,
  clamps,
  neg_mul (pos taken) (pos d),
  whole_solves 1 d (river_and_well taken) (river_whole taken d) d X X (river_over taken d) solves (λ c. share_is_over d (X c) some) 0 (omega arith),
)

river_solved : (taken d : ℕ) (X : ℕ → ℤ) → 0 < d → IsBalanced taken d (X 0) → SolvesStep (river_and_well taken) d X
river_solved taken d X some balanced = whole_balances_solve 1 d (river_and_well taken) (river_whole taken d) X (omega arith) some (river_over taken d) zeros
  where
    zeros : (c : ℕ) → c < 1 → whole_balance (whole_at (river_whole taken d) c) (X c) X ≡ pos 0
    zeros zero h = omega (arith, ints, clamps, neg_mul (pos taken) (pos d))
    zeros (suc c) h = absurd (omega (arith, h))

pub well_past_deep_flow : WellPastDeepFlow
well_past_deep_flow taken past d X some solves = omega (arith, ints, clamps, mul_mono_right d (pos 6) (pos taken) (omega (arith, ints)), river_balance taken d X some solves)

pub well_within_deep_flow : WellWithinDeepFlow
well_within_deep_flow taken less = (
  river_solved taken 1 (λ c. pos 5 -ℤ pos taken) (omega arith) (stands (pos taken) (omega (arith, ints))),
  (λ d k X Y some_d some_k solves_x solves_y c i. one d k X Y some_d some_k solves_x solves_y c i),
)
  where
    stands : (t : ℤ) → t ≤ℤ pos 4 → int_max (pos 5 -ℤ t) (pos 0) +ℤ t *ℤ pos 1 ≡ pos 5 *ℤ pos 1
    stands t h = omega (arith, ints, clamps)

    head_is : (d : ℕ) (X : ℕ → ℤ) → 0 < d → SolvesStep (river_and_well taken) d X → X 0 ≡ (pos 5 -ℤ pos taken) *ℤ pos d
    head_is d X some solves = (omega (arith, ints, clamps, mul_mono_right d (pos taken) (pos 4) (omega (arith, ints)), river_balance taken d X some solves)) ∙ sym (sub_mul (pos 5) (pos taken) (pos d))

    one : (d k : ℕ) (X Y : ℕ → ℤ) → 0 < d → 0 < k → SolvesStep (river_and_well taken) d X → SolvesStep (river_and_well taken) k Y → (c : ℕ) → c < 1 → Same (share d (X c)) (share k (Y c))
    one d k X Y some_d some_k solves_x solves_y zero h =
        crossed_same d k (X 0) (Y 0) some_d some_k (crossed (pos 5 -ℤ pos taken) (pos d) (pos k) (X 0) (Y 0) (head_is d X some_d solves_x)
        (head_is k Y some_k solves_y))
      where
        crossed : (h d k x y : ℤ) → x ≡ h *ℤ d → y ≡ h *ℤ k → x *ℤ k ≡ y *ℤ d
        crossed h d k x y e f = rw (e, f) (last_factors_swap h d k)
    one d k X Y some_d some_k solves_x solves_y (suc c) h = absurd (omega (arith, h))

-- where the well takes the deep flow, every head at or below the bottom is a solution
pub well_of_deep_flow : WellOfDeepFlow
well_of_deep_flow = ((1, (λ c. pos 0), omega arith, river_solved 5 1 (λ c. pos 0) (omega arith) refl), lower)
  where
    lower : HasNoneOrMany (river_and_well 5)
    lower d X some solves = (
      d,
      (λ c. X c -ℤ pos 1),
      some,
      river_solved 5 d (λ c. X c -ℤ pos 1) some (omega (arith, ints, clamps, river_balance 5 d X some solves)),
      0,
      omega arith,
      (λ same. one_apart d (X 0 -ℤ pos 1) (X 0) some (back (X 0)) (record { same = sym same.same })),
    )
      where
        back : (x : ℤ) → x ≡ x -ℤ pos 1 +ℤ pos 1
        back x = omega (arith, ints)

abbrev linked_whole : ℕ → WholeCell
linked_whole other = record { flows = []; links = record { cell = other; c = 1 } ∷ []; fixed = []; rivers = []; drains = []; evaps = [] }

cells_over : (d : ℕ) → AllZip (CellOver 1 d) two_cells (linked_whole 1 ∷ linked_whole 0 ∷ [])
cells_over d = grind (arith)

level_solves : (d : ℕ) (X : ℕ → ℤ) → 0 < d → X 0 ≡ X 1 → SolvesStep two_cells d X
level_solves d X some level = whole_balances_solve 1 d two_cells (linked_whole 1 ∷ linked_whole 0 ∷ []) X (omega arith) some (cells_over d) zeros
  where
    zeros : (c : ℕ) → c < 2 → whole_balance (whole_at (linked_whole 1 ∷ linked_whole 0 ∷ []) c) (X c) X ≡ pos 0
    zeros zero h = omega (arith, ints)
    zeros (suc zero) h = omega (arith, ints, sym level)
    zeros (suc (suc c)) h = absurd (omega (arith, h))

pub two_loose_cells : TwoLooseCells
two_loose_cells = ((1, (λ c. pos 0), omega arith, level_solves 1 (λ c. pos 0) (omega arith) refl), higher)
  where
    higher : HasNoneOrMany two_cells
    higher d X some solves = (
      d,
      (λ c. X c +ℤ pos 1),
      some,
      level_solves d (λ c. X c +ℤ pos 1) some
          (raised (X 0) (X 1) (whole_solves 1 d two_cells (linked_whole 1 ∷ linked_whole 0 ∷ []) d X X (cells_over d) solves (λ c. share_is_over d (X c) some) 0
          (omega arith))),
      0,
      omega arith,
      one_apart d (X 0) (X 0 +ℤ pos 1) some refl,
    )
      where
        raised : (x y : ℤ) → pos 0 +ℤ (pos 1 *ℤ (y -ℤ x) +ℤ pos 0) +ℤ pos 0 +ℤ pos 0 +ℤ pos 0 +ℤ pos 0 ≡ pos 0 → x +ℤ pos 1 ≡ y +ℤ pos 1
        raised x y e = omega (arith, ints)
