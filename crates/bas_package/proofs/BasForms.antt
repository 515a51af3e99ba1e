-- What a file of the basic package gives.
use Rattle.bas_package.proofs.Common.{◌≡◌, ℕ, List, All, length, refl, FileSet, left_from, without_comments, ok_gives_only, goes_on, then_, head_item, basics_of, bas_of, option_line, HasBasics}
use Rattle.bas_package.proofs.Common.{GivesOnly}
use Rattle.decimal_input.specs.{IsDec}
use Rattle.model_types.specs.{cell_count, declared.grid.Grid.Grid, declared.model.FlowModel.FlowModel}
use Rattle.array_text.proofs.ArrayForms.{array_files_have_form}

module _ (files : FileSet) (file bytes : List ℕ) where
  basics_are : (g : Grid) → GivesOnly (λ x. (length x.0 ≡ cell_count g) × (length x.1 ≡ cell_count g) × All IsDec x.1) (basics_of files file bytes g)
  unfolding basics_of
  basics_are g =
      goes_on (option_line file (without_comments (left_from 1 bytes))) _ (λ options a. then_ _ (array_files_have_form.integer_grids files file g.layers g.rows g.cols options.1)
      (λ ibound b. goes_on (head_item file ibound.1) _ (λ hnoflo c. then_ _ (array_files_have_form.real_grids files file g.layers g.rows g.cols hnoflo.1)
      (λ strt d. ok_gives_only (b, d.0, d.1)))))

  pub bas_is : (m : FlowModel) → GivesOnly (HasBasics m) (bas_of files file bytes m)
  unfolding bas_of
  bas_is m = then_ _ (basics_are m.grid) (λ x are. ok_gives_only (record { ibound = are.0; strt = (are.1, are.2); only = refl }))
