-- The balances of a step at listed heads in whole numbers, and the signs that they show. Heads are in units of 10^-9, balances in units of 10^-(s+9).
use Rattle.std.specs.Prelude.{ℕ, ℤ, pos, neg_ℤ, ◌≡◌, ◌+◌, ◌<◌, ◌+ℤ◌, ◌≤ℤ◌, List, length, Contains}
use Rattle.decimal_input.specs.{EnclosesSigned, Fraction}
use Rattle.step_problem.specs.{declared.heads.Bound.Bound, declared.heads.Side.Side, declared.heads.Side.TheVariants.High, declared.heads.Side.TheVariants.Low}
use Rattle.step_problem.specs.{Entries.Entries, balance, entries_at}
use Rattle.model_types.specs.{declared.model.FlowModel.FlowModel, declared.time_steps.TimeStep.TimeStep, IsModel, times, variable_cells}
use Rattle.problem_builder.specs.{HeadsEnclose, IsProblemOver, bound_at}
use Rattle.water_table.specs.declared.convertible_layers.ConvertibleLayers.{ConvertibleLayers}
use Rattle.water_table.specs.{HasSignsAt, IsGentle, ListedPair, listed_heads, variable_cell, water_balance, with_yield}
use Rattle.water_enclosure.specs.{flow_unit}
use Rattle.water_conductances.specs.{AreOrdered}
use Rattle.gentle_problem.specs.{branches_at}
use Rattle.water_storage.specs.{ArePairs, stored_flow}

-- one head as a bound
abbrev pub one_head : ℤ → Bound
one_head x = record { low = x; high = x }

module _ (m : FlowModel) (w : ConvertibleLayers) (s : ℕ) (at : TimeStep) where
  -- The balance of the problem's cell of index i on a side, where the cell of index k has the head H k: that of the problem p without storage, and the
  -- flow of stored water from the heads before the step, which have the bounds `old`.
  abbrev pub whole_balance : Side → List Entries → List Bound → (ℕ → ℤ) → ℕ → ℤ
  whole_balance side p old H i =
      balance side (entries_at p i) (H i) H +ℤ stored_flow m w s at (entries_at p i).id side (bound_at old (entries_at p i).id) (one_head (H i))

  -- The problem p is that at the heads x, which lie within `heads`; H has the heads of the variable cells, by index. The exact heads before the step lie
  -- within the bounds `old`.
  pub record HaveSide (p : List Entries) (heads old : List Bound) (x H : ℕ → ℤ) (before : ℕ → Fraction) : Type 0 where
    pub ordered : AreOrdered m heads
    pub within : HeadsEnclose m heads (listed_heads m at x)
    pub old_within : HeadsEnclose m old before
    pub problem : IsProblemOver m s at heads (branches_at m w heads s) p
    pub stored : (i : ℕ) → i < length (variable_cells m at.period) → ArePairs m w s at (variable_cell m at.period i)
    pub heads_are : (i : ℕ) → i < length (variable_cells m at.period) → H i ≡ x (variable_cell m at.period i)

-- The balances enclose the exact ones.
abbrev pub BalancesEnclose : Type 0
BalancesEnclose = (m : FlowModel) (w : ConvertibleLayers) (s : ℕ) (at : TimeStep) (p : List Entries) (heads old : List Bound) (x H : ℕ → ℤ)
    (before : ℕ → Fraction) (i : ℕ) → IsModel m → IsModel (with_yield m w) → Contains (times m) at → HaveSide m w s at p heads old x H before →
    i < length (variable_cells m at.period) →
    EnclosesSigned (whole_balance m w s at Low p old H i) (whole_balance m w s at High p old H i) (s + 9)
    (water_balance m w at before (listed_heads m at x) (variable_cell m at.period i))

-- So a step has the signs where the lower balances at the lower heads are at least 1, the upper balances at the upper heads are at most -1, and both
-- vectors are gentle. L and U have the listed heads of the variable cells, by index.
abbrev pub SignsAreShown : Type 0
SignsAreShown = (m : FlowModel) (w : ConvertibleLayers) (s : ℕ) (at : TimeStep) (p q : List Entries) (lows highs old : List Bound)
    (pair : ListedPair) (L U : ℕ → ℤ) (before_low before_high : ℕ → Fraction) → IsModel m → IsModel (with_yield m w) → Contains (times m) at →
    HaveSide m w s at p lows old pair.low L before_low → HaveSide m w s at q highs old pair.high U before_high →
    IsGentle m w at.period (listed_heads m at pair.low) → IsGentle m w at.period (listed_heads m at pair.high) →
    ((i : ℕ) → i < length (variable_cells m at.period) → pos 1 ≤ℤ whole_balance m w s at Low p old L i) →
    ((i : ℕ) → i < length (variable_cells m at.period) → whole_balance m w s at High q old U i ≤ℤ neg_ℤ (pos 1)) →
    HasSignsAt (flow_unit s) m w at before_low before_high pair
