-- A model's step and the same step with a plan's wells have the same cells, and branches to the same known heads.
use Rattle.plan_sources.proofs.Common.{All, FlowModel, List, ap, get_or, length, length-map, map, refl, subst, sym, ℕ, ◌-◌, ◌<◌, ◌∙◌, ◌≡◌, get_or-map, ExactCell, cell_at, no_cell, Fraction}
use Rattle.plan_sources.proofs.Common.{exact_cell, exact_fixed, exact_step, FixedSource, cell_count, fixed_sources, period_at, variable_cells, FromStorage, ToConstant, ToGeneral, AreOneNetwork}
use Rattle.plan_sources.proofs.Common.{IsSameBranch, KeepsWellsApart, IsWell, with_plan}
use Rattle.std.specs.List.{AllZip}
use Rattle.model_types.specs.declared.entry.Entry.{Entry}
use Rattle.plan_histories.proofs.PlannedSteps.{cells_same, fixed_same, well_list, zip_images}

module _ (m : FlowModel) (plan : List (List Entry)) (long : length plan ≡ length m.periods) (p n : ℕ) (old older : ℕ → Fraction)
    (wells : All (All (IsWell (cell_count m.grid))) plan) (apart : KeepsWellsApart (period_at m p)) where
  abbrev M : FlowModel
  M = with_plan plan m

  one_branch : (c : ℕ) (x : FixedSource) → IsSameBranch (exact_fixed m p n old c x) (exact_fixed M p n older c x)
  one_branch c (ToConstant x) = record { kind = refl; source = refl }
  one_branch c (ToGeneral h k) = record { kind = refl; source = refl }
  one_branch c FromStorage = record { kind = refl; source = refl }

  cell_branches : (c : ℕ) → AllZip IsSameBranch (exact_cell m p n old c).fixed (exact_cell M p n older c).fixed
  cell_branches c =
      subst (λ (xs : List FixedSource). AllZip IsSameBranch (map (exact_fixed m p n old c) (fixed_sources m p c)) (map (exact_fixed M p n older c) xs))
      (sym (fixed_same m plan long p n old older (well_list (cell_count m.grid) plan (p - 1) wells) apart c))
      (zip_images IsSameBranch (exact_fixed m p n old c) (exact_fixed M p n older c) (one_branch c) (fixed_sources m p c))

  within : (i : ℕ) → i < length (exact_step m p n old) → i < length (variable_cells m p)
  within i lt = subst (λ (k : ℕ). i < k) (length-map (variable_cells m p) (exact_cell m p n old)) lt

  first : (i : ℕ) → i < length (exact_step m p n old) → cell_at (exact_step m p n old) i ≡ exact_cell m p n old (get_or (variable_cells m p) i 0)
  first i lt = get_or-map (exact_cell m p n old) (variable_cells m p) i 0 no_cell (within i lt)

  second : (i : ℕ) → i < length (exact_step m p n old) → cell_at (exact_step M p n older) i ≡ exact_cell M p n older (get_or (variable_cells m p) i 0)
  second i lt =
      ap (λ (xs : List ℕ). get_or (map (exact_cell M p n older) xs) i no_cell) (cells_same m plan long p n (cell_count m.grid))
      ∙ get_or-map (exact_cell M p n older) (variable_cells m p) i 0 no_cell (within i lt)

  pub one_network : AreOneNetwork (exact_step m p n old) (exact_step M p n older)
  one_network = record {
    ids = λ i lt. ap (λ (x : ExactCell). x.id) (second i lt) ∙ sym (ap (λ (x : ExactCell). x.id) (first i lt));
    branches = λ i lt. subst (λ (x : ExactCell). AllZip IsSameBranch x.fixed (cell_at (exact_step M p n older) i).fixed) (sym (first i lt))
        (subst (λ (y : ExactCell). AllZip IsSameBranch (exact_cell m p n old (get_or (variable_cells m p) i 0)).fixed y.fixed) (sym (second i lt))
        (cell_branches (get_or (variable_cells m p) i 0)));
  }
