-- A well at the first of two cells, and a river that it makes dry. Conductances are 1 but for links of the bounding steps; lengths in metres.
-- The first cell has a river of stage 10 and bottom 9, and the plan's well takes 3 from it. The second one lies beside a constant head of 10.
--   base plan   heads 10 and 10
--   other plan  (10 - 9) + (8 - 6) - 3 = 0        (6 - 8) + (10 - 8) = 0          heads 6 and 8: the drawdown at the well is 4
--   less        a link of 1/2 and no river:       (3 - 9) / 2 + 3 = 0              (9 - 3) / 2 + (0 - 3) = 0          9 and 3
--   more        a link of 2 and the river as a branch to 0:  (0 - 9/5) + 2 (6/5 - 9/5) + 3 = 0    2 (9/5 - 6/5) + (0 - 6/5) = 0    9/5 and 6/5
use Rattle.std.specs.Prelude.{List, [], ◌∷◌, ℤ, pos, neg_ℤ}
use Rattle.decimal_input.specs.{Ratio, whole}
use Rattle.step_problem.specs.{declared.entry.FixedKind.TheVariants.Constant, declared.entry.FixedKind.TheVariants.General}
use Rattle.step_problem.specs.{declared.entry.FlowKind.TheVariants.Wells, head_at}
use Rattle.cell_balance.specs.{ExactCell, ExactFixed, ExactFlow, ExactRiver, one}
use Rattle.plan_difference.specs.{half}
use Rattle.plan_conductances.specs.Laws.{ArePlansOfAWell, BoundsFromAbove, BoundsFromBelow}

abbrev pub two : Ratio
two = record { num = 2; less = 0 }

-- the two cells, over a link of this conductance
abbrev pub first_cell : List ExactFlow → Ratio → List ExactFixed → List ExactRiver → ExactCell
first_cell flows link fixed rivers = record {
  id = 0;
  flows = flows;
  links = record { cell = 1; conductance = link } ∷ [];
  fixed = fixed;
  rivers = rivers;
  drains = [];
  evaps = [];
}

abbrev pub second_cell : Ratio → ℤ → ExactCell
second_cell link head = record {
  id = 1;
  flows = [];
  links = record { cell = 0; conductance = link } ∷ [];
  fixed = record { kind = Constant; source = 2; conductance = one; head = whole head } ∷ [];
  rivers = [];
  drains = [];
  evaps = [];
}

abbrev pub pumped : ℤ → List ExactFlow
pumped q = record { kind = Wells; flow = whole q } ∷ []

abbrev pub river : ExactRiver
river = record { conductance = one; stage = whole (pos 10); bottom = whole (pos 9) }

abbrev pub base_step : List ExactCell
base_step = first_cell [] one [] (river ∷ []) ∷ second_cell one (pos 10) ∷ []

abbrev pub planned_step : List ExactCell
planned_step = first_cell (pumped (neg_ℤ (pos 3))) one [] (river ∷ []) ∷ second_cell one (pos 10) ∷ []

abbrev pub less_step : List ExactCell
less_step = first_cell (pumped (pos 3)) half [] [] ∷ second_cell half (pos 0) ∷ []

abbrev pub river_in_full : ExactFixed
river_in_full = record { kind = General; source = 0; conductance = one; head = whole (pos 0) }

abbrev pub more_step : List ExactCell
more_step = first_cell (pumped (pos 3)) two (river_in_full ∷ []) [] ∷ second_cell two (pos 0) ∷ []

-- the example meets all premises of the laws
pub record IsMetByExample : Type 0 where
  pub plans : ArePlansOfAWell 0 (whole (pos 3)) base_step planned_step 1 (head_at (pos 10 ∷ pos 10 ∷ [])) (head_at (pos 6 ∷ pos 8 ∷ []))
  pub above : BoundsFromAbove 0 (whole (pos 3)) base_step less_step 1 (head_at (pos 9 ∷ pos 3 ∷ []))
  pub below : BoundsFromBelow 0 (whole (pos 3)) base_step more_step 5 (head_at (pos 9 ∷ pos 6 ∷ []))
