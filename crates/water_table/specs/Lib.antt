pub mod Branches
pub mod Storage
pub mod Steps
pub mod Gentle
pub mod Histories
pub mod Laws
pub mod Worked
pub use Rattle.water_table.specs.Branches.{branch, conductance_at, is_convertible}
unfoldable pub use Rattle.water_table.specs.Branches.{column_branch, row_branch, saturated_thickness, vertical_branch, vertical_part}
pub use Rattle.water_table.specs.Gentle.{FallsGently, FallsWithin, IsFull, IsGentle}
pub use Rattle.water_table.specs.Histories.{GainsAtLeast, HasSigns, HasSignsAt, HasSignsFrom, IsWithin, LieInPairs, LiesInPair, ListedPair, LosesAtLeast}
pub use Rattle.water_table.specs.Histories.{NearlySolves, NearlySolvesAt, NearlySolvesFrom, listed_heads}
pub use Rattle.water_table.specs.Laws.{LosesByCases, ThickBranchesAreConfined, over_fall}
pub use Rattle.water_table.specs.Steps.{constant_branch, convertible_cell, convertible_step, general_branches, heads_at, variable_branch, variable_cell}
pub use Rattle.water_table.specs.Steps.{water_balance}
pub use Rattle.water_table.specs.Storage.{compressed_water, drainable_water, with_yield}
unfoldable pub use Rattle.water_table.specs.Storage.{storage_flow, stored_water}
pub use Rattle.water_table.specs.Worked.{HasTwoSolutions, middle_balance, middle_head, middle_history, narrow_pair, only_step, pumped_layers, pumped_model}
pub use Rattle.water_table.specs.Worked.{pumping}
