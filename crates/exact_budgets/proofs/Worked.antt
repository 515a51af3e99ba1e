-- The worked cell and the worked zone: their solutions, the bounds of the cell's terms, and the zone's flows. Everything is computed.
use Rattle.exact_budgets.proofs.Common.{zero, suc, refl, arith, ints, In, Out, Storage, SolvesStep, BudgetEncloses, exact_term, exact_singles, heads_of, ◌≡◌, ℕ, ◌<◌, length, All, slice_index}
use Rattle.exact_budgets.proofs.Common.{Constant, ExactFixed, cell_at, exact_from, exact_cell, exact_faces, IsAlone, pumped_step, five, pumped_budget, PumpedCell, middle_step, own_zones, MiddleCell}

solved : SolvesStep pumped_step 1 five
solved zero h = refl
solved (suc c) h = absurd (omega arith)

encloses : BudgetEncloses 0 pumped_step (heads_of 1 five) pumped_budget
unfolding exact_term exact_singles
encloses In Storage = record { lower = omega (arith, ints); upper = omega (arith, ints) }
encloses In t = record { lower = omega (arith, ints); upper = omega (arith, ints) }
encloses Out Storage = record { lower = omega (arith, ints); upper = omega (arith, ints) }
encloses Out t = record { lower = omega (arith, ints); upper = omega (arith, ints) }

pub pumped_cell : PumpedCell
unfolding exact_term exact_singles
pumped_cell = record {
  solved = solved;
  encloses = encloses;
  net = record { same = refl };
  listed = (refl, refl);
  by_others = (refl, refl);
}

sources : (j : ℕ) → j < length middle_step → All (λ (x : ExactFixed). x.kind ≡ Constant → slice_index own_zones x.source ≡ 2 → ⊥) (cell_at middle_step j).fixed
sources zero lt = grind (arith)
sources (suc j) lt = absurd (omega (arith, lt))

alone : IsAlone own_zones middle_step 0
alone = record { inside = omega arith; others = λ j lt e. omega (arith, lt); sources = sources }

pub middle_cell : MiddleCell
unfolding exact_faces exact_cell exact_from
middle_cell = record { alone = alone; from_first = record { same = refl }; to_last = record { same = refl }; inflow_from_first = record { same = refl }; inflow_from_last = record { same = refl } }
