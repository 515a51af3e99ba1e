-- With THICK a branch is the confined one.
use Rattle.water_table.proofs.Common.{refl, Row, Column, Vertical, ThickBranchesAreConfined}
unfoldable use Rattle.model_types.specs.{row_conductance, column_conductance, vertical_conductance, vertical_half}
unfoldable use Rattle.water_table.specs.{row_branch, column_branch, vertical_branch, vertical_part}

pub thick_branches_are_confined : ThickBranchesAreConfined
unfolding row_conductance column_conductance vertical_conductance vertical_half row_branch column_branch vertical_branch vertical_part
thick_branches_are_confined m Row a = refl
thick_branches_are_confined m Column a = refl
thick_branches_are_confined m Vertical a = refl
