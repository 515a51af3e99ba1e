-- Why not every solution can be enclosed: a pumped cell between two cells of known head has two wet solutions, by LPF's own
-- equations. Lengths in tenths of a metre, flows in hundredths of a cubic metre a day.
use Rattle.std.specs.Prelude.{ℕ, ◌+◌, ◌-◌, ◌*◌, ◌<◌, ◌≡◌}
use Rattle.pair_flows.specs.Branches.{CellHalf, IsGentle, horizontal_flow, saturated_thickness}

-- Square cells of conductivity 10 m/d from 0 up to 10 m: per unit of saturated thickness a half conducts 20 m/d.
abbrev pub pumped_cell : CellHalf
pumped_cell = record { bottom = 0; top = 100; per_unit = 20 }

abbrev pub neighbour : CellHalf
neighbour = pumped_cell

-- Both neighbours have a head of 10 m.
abbrev pub known_head : ℕ
known_head = 100

-- The two flows into the cell are the 600 m3/d that its well takes.
abbrev pub LosesWhatIsPumped : ℕ → Type 0
LosesWhatIsPumped head = let flow = horizontal_flow neighbour pumped_cell known_head head in flow.num + flow.num ≡ 60000 * flow.den

-- At 6 m and at 2.5 m. The first is gentle; at the second the drop of 7.5 m is more than the saturated thickness.
pub record HasTwoSolutions : Type 0 where
  pub high : LosesWhatIsPumped 60
  pub low : LosesWhatIsPumped 25
  pub high_is_gentle : IsGentle pumped_cell known_head 60
  pub low_is_steep : saturated_thickness pumped_cell 25 < (known_head - 25)
