-- The unit of flow and the heads of a listing.
use Rattle.std.specs.Prelude.{ℕ, List, ◌+◌, ◌^◌}
use Rattle.decimal_input.specs.{Ratio, ratio}
use Rattle.step_problem.specs.{declared.heads.Bound.Bound, lower_at, upper_at}
use Rattle.water_table.specs.{ListedPair}

-- one unit of flow in a listing with s digits of conductances
abbrev pub flow_unit : ℕ → Ratio
flow_unit s = ratio 1 (10 ^ (s + 9))

-- the listed heads of a step, one bound for each cell, as a pair of vectors
abbrev pub pair_of : List Bound → ListedPair
pair_of heads = record { low = lower_at heads; high = upper_at heads }
