-- Two cells in a row, and a plan that makes a river dry. Every conductance is 1 and has one decimal in the problem; lengths in metres.
-- The first cell lies beside a constant head of 10. The second one has a river of stage 6 and bottom 4, storage, and a well of 1. The
-- plan adds a well of 6 there. At the end of the step before, the second cell's head was 5 in the base plan and 3 in the other one.
--
-- The heads are 8 and 6 in the base plan, and 6 and 2 in the other one:
--   base plan    (10 - 8) + (6 - 8) = 0     (8 - 6) + (5 - 6) + (6 - 6) - 1 = 0       the river is at its stage
--   other plan   (10 - 6) + (2 - 6) = 0     (6 - 2) + (3 - 2) + (6 - 4) - 1 - 6 = 0   the river is dry, and gives 6 - 4
-- So the differences are 2 and 4. The way between the heads 6 and 2 lies half above the bottom: the river is a branch of 1/2 to a head of 0.
--   difference   (0 - 2) + (4 - 2) = 0      (2 - 4) + (2 - 4) + (0 - 4) / 2 + 6 = 0
use Rattle.std.specs.Prelude.{ℕ, ◌<◌, List, [], ◌∷◌, ℤ, pos, neg_ℤ}
use Rattle.decimal_input.specs.{Ratio, whole}
use Rattle.step_problem.specs.{declared.entry.FixedKind.TheVariants.Constant, declared.entry.FixedKind.TheVariants.General}
use Rattle.step_problem.specs.{declared.entry.FixedKind.TheVariants.Storage, declared.entry.FlowKind.TheVariants.Wells, Entries.Entries, head_at}
use Rattle.cell_balance.specs.{ExactCell, ExactFlow, SolvesStep, cell_at, one}
use Rattle.plan_difference.specs.DifferenceStep.{AreFlowsApart, AreStepsInOneWeather, IsDifferenceStep}
use Rattle.plan_difference.specs.AnyWeather.{BoundsDifferencesOf}

abbrev pub half : Ratio
half = record { num = 1; less = 1 }

abbrev pub first_cell : ExactCell
first_cell = record {
  id = 1;
  flows = [];
  links = record { cell = 1; conductance = one } ∷ [];
  fixed = record { kind = Constant; source = 0; conductance = one; head = whole (pos 10) } ∷ [];
  rivers = [];
  drains = [];
  evaps = [];
}

-- the second cell with these wells and this old head
abbrev pub second_cell : List ExactFlow → ℤ → ExactCell
second_cell wells old = record {
  id = 2;
  flows = wells;
  links = record { cell = 0; conductance = one } ∷ [];
  fixed = record { kind = Storage; source = 2; conductance = one; head = whole old } ∷ [];
  rivers = record { conductance = one; stage = whole (pos 6); bottom = whole (pos 4) } ∷ [];
  drains = [];
  evaps = [];
}

abbrev pub well : ℤ → ExactFlow
well q = record { kind = Wells; flow = whole q }

abbrev pub base_step : List ExactCell
base_step = first_cell ∷ second_cell (well (neg_ℤ (pos 1)) ∷ []) (pos 5) ∷ []

abbrev pub planned_step : List ExactCell
planned_step = first_cell ∷ second_cell (well (neg_ℤ (pos 1)) ∷ well (neg_ℤ (pos 6)) ∷ []) (pos 3) ∷ []

-- the well that the plan adds, turned round
abbrev pub added : ℕ → List ExactFlow
added c = (cell_at (first_cell ∷ second_cell (well (pos 6) ∷ []) (pos 0) ∷ []) c).flows

abbrev pub step_of_differences : List ExactCell
step_of_differences =
    record first_cell { fixed = record { kind = Constant; source = 0; conductance = one; head = whole (pos 0) } ∷ [] }
    ∷ record (second_cell (well (pos 6) ∷ []) (pos 2)) {
      fixed = record { kind = Storage; source = 2; conductance = one; head = whole (pos 2) } ∷
          record { kind = General; source = 2; conductance = half; head = whole (pos 0) } ∷ [];
      rivers = [];
    }
    ∷ []

abbrev pub base_heads : ℕ → ℤ
base_heads = head_at (pos 8 ∷ pos 6 ∷ [])

abbrev pub planned_heads : ℕ → ℤ
planned_heads = head_at (pos 6 ∷ pos 2 ∷ [])

-- whole bounds of the differences, in whatever weather: the river over a conductance from 0 to its own
abbrev pub problem_of_differences : List Entries
problem_of_differences =
    record {
      id = 1;
      flows = [];
      links = record { cell = 1; lo = 10; hi = 10 } ∷ [];
      fixed = record { kind = Constant; source = 0; lo = 10; hi = 10; head_lo = pos 0; head_hi = pos 0 } ∷ [];
      rivers = [];
      drains = [];
      evaps = [];
    }
    ∷ record {
      id = 2;
      flows = record { kind = Wells; lo = pos 60000000000; hi = pos 60000000000 } ∷ [];
      links = record { cell = 0; lo = 10; hi = 10 } ∷ [];
      fixed = record { kind = Storage; source = 2; lo = 10; hi = 10; head_lo = pos 2000000000; head_hi = pos 2000000000 }
          ∷ record { kind = General; source = 2; lo = 0; hi = 10; head_lo = pos 0; head_hi = pos 0 } ∷ [];
      rivers = [];
      drains = [];
      evaps = [];
    }
    ∷ []

-- the example meets all premises of the laws
pub record IsMetByExample : Type 0 where
  pub weather : AreStepsInOneWeather base_step planned_step
  pub apart : (c : ℕ) → c < 2 → AreFlowsApart (added c) (cell_at base_step c) (cell_at planned_step c)
  pub step : IsDifferenceStep 1 base_heads planned_heads added base_step planned_step step_of_differences
  pub base : SolvesStep base_step 1 base_heads
  pub planned : SolvesStep planned_step 1 planned_heads
  pub bounds : BoundsDifferencesOf 1 problem_of_differences added base_step planned_step
