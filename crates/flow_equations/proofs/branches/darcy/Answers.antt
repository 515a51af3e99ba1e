use Rattle.flow_equations.proofs.{Darcy.from_both_ends, Darcy.meets_darcy, Darcy.unit_branch, Darcy.meets_darcy_along_columns, Downwards.meets_darcy_downwards}
use Rattle.flow_equations.proofs.branches.darcy.Goals as goal

pub returns : goal.returns
returns c = record { ends = from_both_ends; rows = meets_darcy; unit = unit_branch; columns = meets_darcy_along_columns; downwards = meets_darcy_downwards }
