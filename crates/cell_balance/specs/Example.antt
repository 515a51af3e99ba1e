-- A step of three variable cells, with an entry of each kind, which meets the premises of the comparison. Two cells
-- lie in a row between constant heads of 0 and 10, the first with storage and a dry river, the second with
-- evapotranspiration above its head; a third is alone, with a well that gives 2 and a drain at 0. Lengths in metres;
-- every conductance is 1, and every exact value lies strictly between its two bounds. Conductances are known to one
-- decimal.
use Rattle.std.specs.Prelude.{ℕ, List, [], ◌∷◌, ℤ, pos, neg_ℤ}
use Rattle.decimal_input.specs.{Ratio, whole}
use Rattle.step_problem.specs.{declared.entry.FixedKind.TheVariants.Constant, declared.entry.FixedKind.TheVariants.Storage}
use Rattle.step_problem.specs.{declared.entry.FlowKind.TheVariants.Wells, Entries.Entries, Edges, head_at}
use Rattle.cell_balance.specs.Steps.{ExactCell}

abbrev pub one : Ratio
one = record { num = 1; less = 0 }

abbrev pub first_entries : Entries
first_entries = record {
  id = 1;
  flows = [];
  links = record { cell = 1; lo = 9; hi = 11 } ∷ [];
  fixed = record { kind = Constant; source = 0; lo = 9; hi = 11; head_lo = neg_ℤ (pos 1); head_hi = pos 1 }
      ∷ record { kind = Storage; source = 1; lo = 9; hi = 11; head_lo = pos 3300000000; head_hi = pos 3400000000 } ∷ [];
  rivers = record { lo = 9; hi = 11; stage_lo = pos 19999999999; stage_hi = pos 20000000001; bottom_lo = pos 19999999999; bottom_hi = pos 20000000001 } ∷ [];
  drains = [];
  evaps = [];
}

abbrev pub second_entries : Entries
second_entries = record {
  id = 2;
  flows = [];
  links = record { cell = 0; lo = 9; hi = 11 } ∷ [];
  fixed = record { kind = Constant; source = 3; lo = 9; hi = 11; head_lo = pos 9999999999; head_hi = pos 10000000001 } ∷ [];
  rivers = [];
  drains = [];
  evaps = record { lo = 9; hi = 11; ext_lo = pos 19999999999; ext_hi = pos 20000000001; surf_lo = pos 29999999999; surf_hi = pos 30000000001 } ∷ [];
}

abbrev pub third_entries : Entries
third_entries = record {
  id = 4;
  flows = record { kind = Wells; lo = pos 19999999999; hi = pos 20000000001 } ∷ [];
  links = [];
  fixed = [];
  rivers = [];
  drains = record { lo = 9; hi = 11; elev_lo = neg_ℤ (pos 1); elev_hi = pos 1 } ∷ [];
  evaps = [];
}

abbrev pub example_problem : List Entries
example_problem = first_entries ∷ second_entries ∷ third_entries ∷ []

abbrev pub first_cell : ExactCell
first_cell = record {
  id = 1;
  flows = [];
  links = record { cell = 1; conductance = one } ∷ [];
  fixed = record { kind = Constant; source = 0; conductance = one; head = whole (pos 0) }
      ∷ record { kind = Storage; source = 1; conductance = one; head = record { num = pos 10; less = 2 } } ∷ [];
  rivers = record { conductance = one; stage = whole (pos 20); bottom = whole (pos 20) } ∷ [];
  drains = [];
  evaps = [];
}

abbrev pub second_cell : ExactCell
second_cell = record {
  id = 2;
  flows = [];
  links = record { cell = 0; conductance = one } ∷ [];
  fixed = record { kind = Constant; source = 3; conductance = one; head = whole (pos 10) } ∷ [];
  rivers = [];
  drains = [];
  evaps = record { conductance = one; surface = whole (pos 30); extinction = whole (pos 20) } ∷ [];
}

abbrev pub third_cell : ExactCell
third_cell = record {
  id = 4;
  flows = record { kind = Wells; flow = whole (pos 2) } ∷ [];
  links = [];
  fixed = [];
  rivers = [];
  drains = record { conductance = one; elevation = whole (pos 0) } ∷ [];
  evaps = [];
}

abbrev pub example_step : List ExactCell
example_step = first_cell ∷ second_cell ∷ third_cell ∷ []

-- the heads 10/3, 20/3 and 2, as numerators over 3
abbrev pub example_heads : ℕ → ℤ
example_heads = head_at (pos 10 ∷ pos 20 ∷ pos 6 ∷ [])

abbrev pub example_barrier : Edges
example_barrier = record {
  floor = neg_ℤ (pos 10000000000) ∷ neg_ℤ (pos 10000000000) ∷ pos 0 ∷ [];
  ceiling = pos 22000000000 ∷ pos 22000000000 ∷ pos 22000000000 ∷ [];
}

abbrev pub example_lows : ℕ → ℤ
example_lows = head_at (pos 2918918917 ∷ pos 6105405403 ∷ pos 1818181817 ∷ [])

abbrev pub example_highs : ℕ → ℤ
example_highs = head_at (pos 3787941790 ∷ pos 7204573807 ∷ pos 2222222224 ∷ [])
